-- A condition's value stands at the place of its name.
use Rattle.std.proofs.Common.{◌≡◌, ◌∙◌, ℕ, List, [], ◌∷◌, Bool, true, false, Option, Some, None, Result, Ok, Err}
use Rattle.std.proofs.Common.{refl, ap, sym, cond, bytes_eq, find, option_map}
use Rattle.std.proofs.lemmas.Cmp.{nat_list_cmp_total}
use Rattle.std.specs.List.{AllByRecursion}
use Rattle.std.specs.List.Sorted.{IsStrictlySortedBy}
use Rattle.std.specs.Option.{option_or}
use Rattle.std.specs.Ordering.{nat_cmp, match_ordering}
use Rattle.std.specs.Cmp.Lexicographic.{slice_cmp}
use Rattle.std.specs.declared.cmp.Ordering.{Ordering}
use Rattle.std.specs.declared.cmp.Ordering.TheVariants.{Less, Equal, Greater}
use Rattle.heat_plan.specs.Named.{condition_value}
use Rattle.heat_plan.specs.declared.conditions.Condition.{Condition}
use Rattle.heat_value.proofs.Searches.{equal_by, below_all}
use Rattle.heat_value.specs.Data.{Members, no_members, member, keys_of, Rises}
use Rattle.heat_value.specs.Meaning.{members_of}
use Rattle.heat_value.specs.Places.{place, one_further}
use Rattle.heat_value.specs.declared.value.Member.{Member}
use Rattle.eval_words.specs.SoFar.{with_value, named_values, value_at}

abbrev cmp : List ℕ → List ℕ → Ordering
cmp = slice_cmp nat_cmp

-- the value at a place that was found
abbrev pub value_there : Result ℕ ℕ → List (Option Bool) → Option Bool
value_there (Ok i) values = value_at values i
value_there (Err i) values = None

-- the first condition has the name, or the others decide
abbrev either : Bool → Option Bool → Option Bool → Option Bool
either true value rest = option_or value rest
either false value rest = rest

pub value_in_front : (name k : List ℕ) (value : Option Bool) (rest : List Condition) (b : Bool) → bytes_eq k name ≡ b
    → condition_value (with_value k value rest) name ≡ either b value (condition_value rest name)
value_in_front name k None rest true is = refl
value_in_front name k None rest false is = refl
value_in_front name k (Some v) rest true is = ap (λ (b : Bool). option_map (λ (c : Condition). c.value)
    (cond b (Some (record { name = k; value = v })) (find (λ (c : Condition). bytes_eq c.name name) rest))) is
value_in_front name k (Some v) rest false is = ap (λ (b : Bool). option_map (λ (c : Condition). c.value)
    (cond b (Some (record { name = k; value = v })) (find (λ (c : Condition). bytes_eq c.name name) rest))) is

-- a name below all others has no value
pub nothing_below : (name : List ℕ) (conds : Members) (values : List (Option Bool))
    → AllByRecursion (λ y. cmp name y ≡ Less) (keys_of conds) → condition_value (named_values conds values) name ≡ None
nothing_below name no_members values all = refl
nothing_below name (member k d ms) [] all = refl
nothing_below name (member k d ms) (v ∷ values) all =
    value_in_front name k v (named_values ms values) false (equal_by name k Less all.0)
    ∙ nothing_below name ms values all.1

nothing_there : (r : Result ℕ ℕ) → value_there r [] ≡ None
nothing_there (Ok i) = refl
nothing_there (Err i) = refl

there_further : (r : Result ℕ ℕ) (v : Option Bool) (values : List (Option Bool))
    → value_there (one_further r) (v ∷ values) ≡ value_there r values
there_further (Ok i) v values = refl
there_further (Err i) v values = refl

-- what is equal to a name is below all that are above the name
all_same : (name k : List ℕ) (ks : List (List ℕ)) → cmp name k ≡ Equal → AllByRecursion (λ y. cmp k y ≡ Less) ks
    → AllByRecursion (λ y. cmp name y ≡ Less) ks
all_same name k [] same all = tt
all_same name k (y ∷ ys) same all = (nat_list_cmp_total.congr name k y same ∙ all.0, all_same name k ys same all.1)

pub or_none : (v : Option Bool) → option_or v None ≡ v
or_none None = refl
or_none (Some b) = refl

abbrev placed : Ordering → Result ℕ ℕ → Result ℕ ℕ
placed o r = match_ordering o (Err 0) (Ok 0) (one_further r)

pub value_placed : (name : List ℕ) (ms : List Member) (values : List (Option Bool)) → Rises (members_of ms)
    → condition_value (named_values (members_of ms) values) name ≡ value_there (place name ms) values
unfolding IsStrictlySortedBy
value_placed name [] values up = refl
value_placed name (m ∷ ms) [] up = sym (nothing_there (place name (m ∷ ms)))
value_placed name (m ∷ ms) (v ∷ values) up = by (cmp name m.key) refl (value_placed name ms values up.1)
  where
    by : (o : Ordering) → cmp name m.key ≡ o
        → condition_value (named_values (members_of ms) values) name ≡ value_there (place name ms) values
        → condition_value (with_value m.key v (named_values (members_of ms) values)) name
        ≡ value_there (placed o (place name ms)) (v ∷ values)
    by Less is more =
        value_in_front name m.key v (named_values (members_of ms) values) false (equal_by name m.key Less is)
        ∙ nothing_below name (members_of ms) values (below_all name m.key (keys_of (members_of ms)) is up.0)
    by Equal is more =
        value_in_front name m.key v (named_values (members_of ms) values) true (equal_by name m.key Equal is)
        ∙ ap (option_or v) (nothing_below name (members_of ms) values (all_same name m.key (keys_of (members_of ms)) is up.0))
        ∙ or_none v
    by Greater is more =
        value_in_front name m.key v (named_values (members_of ms) values) false (equal_by name m.key Greater is)
        ∙ more ∙ sym (there_further (place name ms) v values)
