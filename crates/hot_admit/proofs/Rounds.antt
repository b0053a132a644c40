-- The rounds in which conditions get their values: each adds some or is the last, so that one more adds none.
use Rattle.std.proofs.Common.{◌≡◌, ◌⊎◌, ◌∙◌, ◌<◌, ◌≤◌, ℕ, zero, suc, List, [], ◌∷◌, Bool, true, false}
use Rattle.std.proofs.Common.{Option, Some, None}
use Rattle.std.proofs.Common.{length, refl, sym, ap, subst, inl, inr, arith, option_map, bytes_eq, cond, find}
use Rattle.std.specs.Prelude.{option_and_then, is_some, unwrap_or}
use Rattle.std.specs.List.Sorted.{IsStrictlySortedBy}
use Rattle.std.specs.declared.cmp.Ordering.TheVariants.{Less}
use Rattle.std.proofs.lemmas.Slice.Eq.{bytes_eq-Decides}
use Rattle.heat_plan.specs.Named.{condition_value}
use Rattle.heat_plan.specs.declared.conditions.Condition.{Condition}
use Rattle.heat_value.proofs.Searches.{equal_by}
use Rattle.heat_value.specs.Data.{Data, flag, words, Members, no_members, member, lookup, keys_of, Rises}
use Rattle.eval_words.specs.Conditions.{flag_of, flag_made, valued, valued_after, count_of, values_of}
use Rattle.eval_words.specs.Conditions.{in_conditions}
use Rattle.eval_words.specs.SoFar.{with_value}
use Rattle.eval_words.specs.Evaluation.{evaluation, evaluation_within, condition_outcome}
use Rattle.eval_words.specs.Lookups.{named_condition}
use Rattle.eval_words.specs.Outcomes.{Outcome, Gives, Faults, max_levels}
use Rattle.hot_admit.specs.Valuing.{IsWithin}
use Rattle.hot_admit.proofs.Chosen.{Behind}
use Rattle.hot_admit.proofs.Outcomes.{StaysIf}
use Rattle.hot_admit.proofs.Fitting.{HasFlag}
use Rattle.hot_admit.proofs.Staying.{NamesStay, whole_stays}

-- ---- a flag stays

made_stays : (o p : Outcome Data) (v : Bool) → StaysIf HasFlag o p → flag_made o ≡ Some v → flag_made p ≡ Some v
made_stays (Gives d n) p v stays is = ap flag_made (stays (ap is_some is)) ∙ is
made_stays (Faults c q) p v stays is = cc

names_stay : (params : Members) (a b : List Condition) → IsWithin a b → NamesStay params a b
names_stay params a b within s = by (condition_value a s) refl
  where
    by : (o : Option Bool) → condition_value a s ≡ o → HasFlag (unwrap_or (option_map flag o) (words s))
        → named_condition (in_conditions params b) s ≡ unwrap_or (option_map flag o) (words s)
    by None is has = cc
    by (Some v) is has = ap (λ o. unwrap_or (option_map flag o) (words s)) (within.kept s v is)

stays_at : (k : ℕ) (params : Members) (a b : List Condition) → IsWithin a b → (d : Data) (v : Bool)
    → flag_made (condition_outcome (evaluation_within k (in_conditions params a)) (in_conditions params a) max_levels d 0)
    ≡ Some v
    → flag_made (condition_outcome (evaluation_within k (in_conditions params b)) (in_conditions params b) max_levels d 0)
    ≡ Some v
stays_at k params a b within d v =
    made_stays _ _ v (whole_stays params a b (names_stay params a b within) k max_levels d 0)

-- where more conditions have values an expression gives the same flag
pub flag_stays : (params : Members) (a b : List Condition) → IsWithin a b → (d : Data) (v : Bool)
    → flag_of params a d ≡ Some v → flag_of params b d ≡ Some v
unfolding evaluation
flag_stays = stays_at max_levels

-- ---- what one round gives, by name

-- no key behind the first of rising ones is the same
pub none_behind : (k l : List ℕ) (d : Data) (ms : Members) → Rises (member l d ms) → bytes_eq l k ≡ true
    → lookup k ms ≡ None
unfolding IsStrictlySortedBy
none_behind k l d ms up same =
    nothing_behind k ms
    (subst (λ (z : List ℕ). Behind z (keys_of ms)) ((bytes_eq-Decides l k).0 same) up.0)
  where
    nothing_behind : (n : List ℕ) (ns : Members) → Behind n (keys_of ns) → lookup n ns ≡ None
    nothing_behind n no_members all = refl
    nothing_behind n (member m e ns) all =
        ap (λ (b : Bool). cond b (Some e) (lookup n ns)) (equal_by n m Less all.0) ∙ nothing_behind n ns all.1

pub valued_at : (params : Members) (known : List Condition) (ms : Members) (k : List ℕ) → Rises ms
    → condition_value (valued params known ms) k ≡ option_and_then (flag_of params known) (lookup k ms)
unfolding IsStrictlySortedBy
valued_at params known no_members k up = refl
valued_at params known (member l d ms) k up =
    by (bytes_eq l k) refl (flag_of params known d) refl (valued_at params known ms k up.1)
  where
    rest_found : Option Condition
    rest_found = find (λ (x : Condition). bytes_eq x.name k) (valued params known ms)

    by : (c : Bool) → bytes_eq l k ≡ c → (o : Option Bool) → flag_of params known d ≡ o
        → condition_value (valued params known ms) k ≡ option_and_then (flag_of params known) (lookup k ms)
        → condition_value (with_value l o (valued params known ms)) k
        ≡ option_and_then (flag_of params known) (cond c (Some d) (lookup k ms))
    by true same None gives rest =
        rest ∙ ap (option_and_then (flag_of params known)) (none_behind k l d ms up same) ∙ sym gives
    by true same (Some b) gives rest =
        ap (λ c. option_map (λ (x : Condition). x.value)
        (cond c (Some (record { name = l; value = b })) rest_found)) same ∙ sym gives
    by false other None gives rest = rest
    by false other (Some b) gives rest =
        ap (λ c. option_map (λ (x : Condition). x.value)
        (cond c (Some (record { name = l; value = b })) rest_found)) other ∙ rest

-- ---- a round on

pub nothing_within : (known : List Condition) → IsWithin [] known
nothing_within known = record { kept = λ name b is. cc }

pub within_itself : (known : List Condition) → IsWithin known known
within_itself known = record { kept = λ name b is. is }

pub within_both : (a b c : List Condition) → IsWithin a b → IsWithin b c → IsWithin a c
within_both a b c h g = record { kept = λ name v is. g.kept name v (h.kept name v is) }

pub round_within : (params conds : Members) (a b : List Condition) → Rises conds → IsWithin a b
    → IsWithin (valued params a conds) (valued params b conds)
round_within params conds a b up within = record {
  kept = λ name v is. valued_at params b conds name up
      ∙ by name v (lookup name conds) (sym (valued_at params a conds name up) ∙ is);
}
  where
    by : (name : List ℕ) (v : Bool) (o : Option Data) → option_and_then (flag_of params a) o ≡ Some v
        → option_and_then (flag_of params b) o ≡ Some v
    by name v None is = cc
    by name v (Some d) is = flag_stays params a b within d v is

rounds_within : (params conds : Members) (n : ℕ) → Rises conds
    → IsWithin (valued_after n params conds) (valued_after (suc n) params conds)
rounds_within params conds zero up = nothing_within _
rounds_within params conds (suc n) up = round_within params conds _ _ up (rounds_within params conds n up)

-- ---- the last round

-- the same conditions get values, or more do
more_or_same : (params : Members) (a b : List Condition) → IsWithin a b → (ms : Members)
    → (valued params a ms ≡ valued params b ms) ⊎ (length (valued params a ms) < length (valued params b ms))
more_or_same params a b within no_members = inl refl
more_or_same params a b within (member k d ms) =
    by (flag_of params a d) (flag_of params b d) refl (flag_stays params a b within d)
    (more_or_same params a b within ms)
  where
    Either : Option Bool → Option Bool → Type 0
    Either o p =
        (with_value k o (valued params a ms) ≡ with_value k p (valued params b ms))
        ⊎ (length (with_value k o (valued params a ms)) < length (with_value k p (valued params b ms)))

    by : (o p : Option Bool) → flag_of params b d ≡ p → ((v : Bool) → o ≡ Some v → flag_of params b d ≡ Some v)
        → (valued params a ms ≡ valued params b ms) ⊎ (length (valued params a ms) < length (valued params b ms))
        → Either o p
    by None None is stays rest = rest
    by None (Some v) is stays (inl same) = inr (omega (arith, ap length same))
    by None (Some v) is stays (inr less) = inr (omega (arith, less))
    by (Some v) None is stays rest = let there = stays v refl in cc
    by (Some v) (Some w) is stays (inl same) = let there : flag_of params b d ≡ Some v = stays v refl in inl (cc)
    by (Some v) (Some w) is stays (inr less) = inr (omega (arith, less))

valued_few : (params : Members) (known : List Condition) (ms : Members) → length (valued params known ms) ≤ count_of ms
valued_few params known no_members = omega arith
valued_few params known (member k d ms) = by (flag_of params known d) (valued_few params known ms)
  where
    by : (o : Option Bool) → length (valued params known ms) ≤ count_of ms
        → length (with_value k o (valued params known ms)) ≤ suc (count_of ms)
    by None few = omega (arith, few)
    by (Some v) few = omega (arith, few)

-- as many have values as there were rounds, or the last one gave none
last_or_more : (params conds : Members) → Rises conds → (n : ℕ)
    → (valued_after n params conds ≡ valued_after (suc n) params conds)
    ⊎ (n < length (valued_after (suc n) params conds))
last_or_more params conds up zero = by (valued params [] conds)
  where
    by : (xs : List Condition) → ([] ≡ xs) ⊎ (0 < length xs)
    by [] = inl refl
    by (x ∷ xs) = inr (omega arith)
last_or_more params conds up (suc n) = by (last_or_more params conds up n)
  where
    more : n < length (valued_after (suc n) params conds)
        → (valued_after (suc n) params conds ≡ valued_after (suc (suc n)) params conds)
        ⊎ (length (valued_after (suc n) params conds) < length (valued_after (suc (suc n)) params conds))
        → (valued_after (suc n) params conds ≡ valued_after (suc (suc n)) params conds)
        ⊎ (suc n < length (valued_after (suc (suc n)) params conds))
    more many (inl same) = inl same
    more many (inr less) = inr (omega (arith, many, less))

    by : (valued_after n params conds ≡ valued_after (suc n) params conds)
        ⊎ (n < length (valued_after (suc n) params conds))
        → (valued_after (suc n) params conds ≡ valued_after (suc (suc n)) params conds)
        ⊎ (suc n < length (valued_after (suc (suc n)) params conds))
    by (inl same) = inl (ap (λ known. valued params known conds) same)
    by (inr many) =
        more many (more_or_same params (valued_after n params conds) (valued_after (suc n) params conds)
        (rounds_within params conds n up) conds)

-- one more round gives the same values
pub values_again : (params conds : Members) → Rises conds
    → values_of params conds ≡ valued params (values_of params conds) conds
unfolding values_of
values_again params conds up = by (last_or_more params conds up (count_of conds))
  where
    by : (valued_after (count_of conds) params conds ≡ valued_after (suc (count_of conds)) params conds)
        ⊎ (count_of conds < length (valued_after (suc (count_of conds)) params conds))
        → valued_after (count_of conds) params conds ≡ valued_after (suc (count_of conds)) params conds
    by (inl same) = same
    by (inr many) = absurd (omega (arith, many, valued_few params (valued_after (count_of conds) params conds) conds))

-- the value of a condition is the flag that it gives where all have theirs
pub value_is : (params conds : Members) (k : List ℕ) → Rises conds
    → condition_value (values_of params conds) k
    ≡ option_and_then (flag_of params (values_of params conds)) (lookup k conds)
value_is params conds k up =
    ap (λ known. condition_value known k) (values_again params conds up)
    ∙ valued_at params (values_of params conds) conds k up

-- ---- the least values

reached_after : (params conds : Members) (known : List Condition) → Rises conds
    → IsWithin (valued params known conds) known → (n : ℕ) → IsWithin (valued_after n params conds) known
reached_after params conds known up closed zero = nothing_within known
reached_after params conds known up closed (suc n) =
    within_both _ _ _ (round_within params conds _ _ up (reached_after params conds known up closed n)) closed

-- where another round adds none the values are all there
pub reached : (params conds : Members) (known : List Condition) → Rises conds
    → IsWithin (valued params known conds) known → IsWithin (values_of params conds) known
unfolding values_of
reached params conds known up closed = reached_after params conds known up closed (count_of conds)
