-- The values that were found are those of the conditions, once a round adds none or there were enough of them.
use Rattle.std.proofs.Common.{◌≡◌, ◌∙◌, ◌+◌, ◌<◌, ◌++◌, ℕ, zero, suc, List, [], ◌∷◌, Bool, true, false}
use Rattle.std.proofs.Common.{Option, Some, None}
use Rattle.std.proofs.Common.{length, map, drop, get_or, refl, sym, ap, subst, arith, add-one, drop-cons}
use Rattle.std.proofs.Common.{cond, bytes_eq, append_assoc}
use Rattle.std.specs.List.Sorted.{IsStrictlySortedBy}
use Rattle.std.specs.Prelude.{option_and_then}
use Rattle.std.proofs.lemmas.Slice.Eq.{bytes_eq-Decides}
use Rattle.heat_plan.specs.Named.{condition_value}
use Rattle.heat_plan.specs.declared.conditions.Condition.{Condition}
use Rattle.heat_value.specs.Data.{Data, Members, no_members, member, keys_of, lookup, Rises}
use Rattle.heat_value.specs.Meaning.{data_of, members_of}
use Rattle.heat_value.specs.declared.value.Member.{Member}
use Rattle.eval_words.specs.Conditions.{flag_of, values_of, valued, valued_after, count_of, first_unvalued}
use Rattle.eval_words.specs.SoFar.{with_value, named_values}
use Rattle.eval_words.specs.Conditions.{unless_valued}
use Rattle.hot_admit.specs.Conds.{flags_of, condition_path}
use Rattle.hot_admit.specs.Valuing.{IsWithin, AreFound, AddsRound}
use Rattle.hot_admit.proofs.Rounds.{value_is, values_again, within_both, nothing_within, round_within, none_behind}
use Rattle.hot_admit.proofs.Finding.{values_by_name}

-- ---- all rounds

-- as many rounds as there are conditions, or one that adds nothing, give each its value
same_value : (a b : List Condition) (name : List ℕ) → IsWithin a b → IsWithin b a
    → condition_value a name ≡ condition_value b name
same_value a b name there back = by (condition_value a name) (condition_value b name) refl refl
  where
    by : (o p : Option Bool) → condition_value a name ≡ o → condition_value b name ≡ p → o ≡ p
    by None None is has = refl
    by None (Some c) is has = let known = back.kept name c has in cc
    by (Some c) p is has = sym (there.kept name c is) ∙ has

first_key : (k : List ℕ) (d : Data) (ms : Members) → lookup k (member k d ms) ≡ Some d
first_key k d ms = ap (λ (b : Bool). cond b (Some d) (lookup k ms)) ((bytes_eq-Decides k k).1 refl)

later_key : (k l : List ℕ) (d e : Data) (ms : Members) → Rises (member l e ms) → lookup k ms ≡ Some d
    → lookup k (member l e ms) ≡ Some d
later_key k l d e ms up is = by (bytes_eq l k) refl
  where
    by : (b : Bool) → bytes_eq l k ≡ b → cond b (Some e) (lookup k ms) ≡ Some d
    by true same = let none : lookup k ms ≡ None = none_behind k l e ms up same in cc
    by false other = is

flags_by_name : (params : Members) (last : List Condition) (f : List ℕ → Option Bool) (ms : Members) → Rises ms
    → ((k : List ℕ) (d : Data) → lookup k ms ≡ Some d → f k ≡ flag_of params last d)
    → map f (keys_of ms) ≡ flags_of params last ms
unfolding IsStrictlySortedBy
flags_by_name params last f no_members up each = refl
flags_by_name params last f (member k d ms) up each =
    let head : f k ≡ flag_of params last d = each k d (first_key k d ms) in
    let rest : map f (keys_of ms) ≡ flags_of params last ms =
    flags_by_name params last f ms up.1 (λ l e is. each l e (later_key l k e d ms up is)) in
    cc

pub flags_found : (params conds : Members) (values : List (Option Bool)) → Rises conds → AreFound params conds values
    → IsWithin (values_of params conds) (named_values conds values)
    → values ≡ flags_of params (values_of params conds) conds
flags_found params conds values up found all =
    values_by_name conds values up found.count
    ∙ flags_by_name params (values_of params conds) (condition_value (named_values conds values)) conds up (λ k d is.
    same_value (named_values conds values) (values_of params conds) k found.right all
    ∙ value_is params conds k up ∙ ap (option_and_then (flag_of params (values_of params conds))) is)

-- nothing was added
pub none_added : (params conds : Members) (old new : List (Option Bool)) → AddsRound params conds old new → new ≡ old
    → IsWithin (valued params (named_values conds new) conds) (named_values conds new)
none_added params conds old new adds same =
    subst (λ (vs : List (Option Bool)). IsWithin (valued params (named_values conds vs) conds) (named_values conds new))
    (sym same) adds.all

-- ---- from round to round

pub first_round : (params conds : Members) (values : List (Option Bool))
    → IsWithin (valued_after 0 params conds) (named_values conds values)
first_round params conds values = nothing_within (named_values conds values)

pub next_round : (params conds : Members) (n : ℕ) (old new : List (Option Bool)) → Rises conds
    → IsWithin (valued_after n params conds) (named_values conds old) → AddsRound params conds old new
    → IsWithin (valued_after (n + 1) params conds) (named_values conds new)
next_round params conds n old new up within adds =
    rw add-one (within_both _ (valued params (named_values conds old) conds) (named_values conds new)
    (round_within params conds _ (named_values conds old) up within) adds.all)

counted : (ms : List Member) → count_of (members_of ms) ≡ length ms
counted [] = refl
counted (m ∷ ms) = ap suc (counted ms)

pub last_round : (params : Members) (ms : List Member) (n : ℕ) (known : List Condition) → n ≡ length ms
    → IsWithin (valued_after n params (members_of ms)) known → IsWithin (values_of params (members_of ms)) known
unfolding values_of
last_round params ms n known all =
    subst (λ (k : ℕ). IsWithin (valued_after k params (members_of ms)) known) (all ∙ sym (counted ms))

-- ---- the list of all values

pub flags_count : (params : Members) (known : List Condition) (ms : List Member)
    → length (flags_of params known (members_of ms)) ≡ length ms
flags_count params known [] = refl
flags_count params known (m ∷ ms) = ap suc (flags_count params known ms)

pub flag_there : (params : Members) (known : List Condition) (ms : List Member) (i : ℕ) (m : Member) (o : Option Bool)
    → i < length ms → m ≡ get_or ms i m
    → get_or (flags_of params known (members_of ms)) i o ≡ flag_of params known (data_of m.value)
flag_there params known [] i m o below at = absurd (omega (arith, below))
flag_there params known (x ∷ ms) zero m o below at =
    ap (λ (z : Member). flag_of params known (data_of z.value)) (sym at)
flag_there params known (x ∷ ms) (suc i) m o below at = flag_there params known ms i m o (omega (arith, below)) at

-- what is read at a place is the flag of the condition there
pub flag_read : (params : Members) (known : List Condition) (ms : List Member) (i : ℕ) (m : Member) (o : Option Bool)
    (values : List (Option Bool)) → i < length ms → m ≡ get_or ms i m → values ≡ flags_of params known (members_of ms)
    → o ≡ get_or values i o → flag_of params known (data_of m.value) ≡ o
flag_read params known ms i m o values below at all read =
    sym (flag_there params known ms i m o below at)
    ∙ ap (λ (vs : List (Option Bool)). get_or vs i o) (sym all) ∙ sym read

-- the values so far, and those of the conditions left, are all
pub record AreValuesTo (params : Members) (last : List Condition) (ms : List Member) (i : ℕ)
    (known : List Condition) : Type 0 where
  pub all : known ++ valued params last (members_of (drop i ms)) ≡ last
  pub none : first_unvalued params last (members_of ms) ≡ first_unvalued params last (members_of (drop i ms))

pub values_from : (params : Members) (ms : List Member) → Rises (members_of ms)
    → AreValuesTo params (values_of params (members_of ms)) ms 0 []
values_from params ms up = record { all = sym (values_again params (members_of ms) up); none = refl }

-- the next condition, in front of those behind it
pub left_at : (ms : List Member) (i : ℕ) (m : Member) → i < length ms → m ≡ get_or ms i m
    → drop i ms ≡ m ∷ drop (i + 1) ms
left_at ms i m below at =
    rw (add-one, drop-cons ms i m) (ap (λ (z : Member). z ∷ drop (suc i) ms) (sym at))

pub values_next : (params : Members) (last : List Condition) (ms : List Member) (i : ℕ) (m : Member) (v : Bool)
    (known new : List Condition) → AreValuesTo params last ms i known → i < length ms → m ≡ get_or ms i m
    → flag_of params last (data_of m.value) ≡ Some v → new ≡ known ++ record { name = m.key; value = v } ∷ []
    → AreValuesTo params last ms (i + 1) new
values_next params last ms i m v known new far below at flag pushed = record {
  all = ap (λ (xs : List Condition). xs ++ valued params last behind) pushed
      ∙ append_assoc known (record { name = m.key; value = v } ∷ []) (valued params last behind)
      ∙ sym (ap (λ (xs : List Condition). known ++ xs)
      (ap (λ (ls : List Member). valued params last (members_of ls)) (left_at ms i m below at)
      ∙ ap (λ (o : Option Bool). with_value m.key o (valued params last behind)) flag))
      ∙ far.all;
  none = far.none ∙ ap (λ (ls : List Member). first_unvalued params last (members_of ls)) (left_at ms i m below at)
      ∙ ap (λ (o : Option Bool). unless_valued (condition_path m.key) o (first_unvalued params last behind)) flag;
}
  where
    behind : Members
    behind = members_of (drop (i + 1) ms)

pub values_stop : (params : Members) (last : List Condition) (ms : List Member) (i : ℕ) (m : Member)
    (known : List Condition) → AreValuesTo params last ms i known → i < length ms → m ≡ get_or ms i m
    → flag_of params last (data_of m.value) ≡ None
    → first_unvalued params last (members_of ms) ≡ Some (condition_path m.key)
values_stop params last ms i m known far below at flag =
    far.none ∙ ap (λ (ls : List Member). first_unvalued params last (members_of ls)) (left_at ms i m below at)
    ∙ ap (λ (o : Option Bool). unless_valued (condition_path m.key) o
    (first_unvalued params last (members_of (drop (i + 1) ms)))) flag
