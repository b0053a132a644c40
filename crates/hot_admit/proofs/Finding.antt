-- How the value of one condition is found.
use Rattle.std.proofs.Common.{◌≡◌, ◌∙◌, ◌<◌, ℕ, zero, suc, List, [], ◌∷◌, Bool, true, false, Option, Some, None}
use Rattle.std.proofs.Common.{length, map, replicate, set, get_or, slice_get, refl, sym, ap, subst, arith, bytes_eq}
use Rattle.std.specs.Cmp.Lexicographic.{slice_cmp}
use Rattle.std.specs.List.Sorted.{IsStrictlySortedBy}
use Rattle.std.specs.Ordering.{nat_cmp}
use Rattle.std.specs.Option.{option_or}
use Rattle.std.specs.Prelude.{option_and_then, is_some}
use Rattle.std.specs.declared.cmp.Ordering.TheVariants.{Less, Greater}
use Rattle.std.proofs.lemmas.List.{length-set, length-replicate, get_or-set_same}
use Rattle.std.proofs.lemmas.Option.{slice_get_within}
use Rattle.std.proofs.lemmas.Slice.Eq.{bytes_eq-Decides}
use Rattle.heat_plan.specs.Named.{condition_value}
use Rattle.heat_plan.specs.declared.conditions.Condition.{Condition}
use Rattle.heat_value.proofs.Searches.{flipped, equal_by}
use Rattle.heat_value.specs.Data.{Data, Members, no_members, member, keys_of, lookup, Rises}
use Rattle.heat_value.specs.Meaning.{data_of, members_of}
use Rattle.heat_value.specs.declared.value.Member.{Member}
use Rattle.eval_words.specs.Conditions.{flag_of, values_of}
use Rattle.eval_words.specs.SoFar.{with_value, named_values}
use Rattle.eval_words.proofs.Placed.{value_in_front, nothing_below, or_none}
use Rattle.hot_admit.specs.Valuing.{FindsOne, IsWithin, AreFound, Grows, IsFoundAt}
use Rattle.hot_admit.proofs.Chosen.{Behind}
use Rattle.hot_admit.proofs.Keyed.{behind_at, keys_count}
use Rattle.hot_admit.proofs.NameGraphs.{key_at, value_at}
use Rattle.hot_admit.proofs.Rounds.{flag_stays, value_is, within_itself}

-- ---- values by place and by name

differs : (a b : List ℕ) → slice_cmp nat_cmp a b ≡ Less → bytes_eq a b ≡ false
differs a b less = equal_by b a Greater (flipped a b Less less)

differs_back : (a b : List ℕ) → slice_cmp nat_cmp a b ≡ Less → bytes_eq b a ≡ false
differs_back a b less = equal_by a b Less less

-- the first condition's value is that of its name
value_first : (k : List ℕ) (v : Option Bool) (conds : Members) (values : List (Option Bool)) → Behind k (keys_of conds)
    → condition_value (with_value k v (named_values conds values)) k ≡ v
value_first k v conds values up =
    value_in_front k k v (named_values conds values) true ((bytes_eq-Decides k k).1 refl)
    ∙ ap (option_or v) (nothing_below k conds values up) ∙ or_none v

-- the value of the name at a place stands at the place
value_of_key : (conds : Members) (values : List (Option Bool)) (i : ℕ) (k : List ℕ) (o : Option Bool) → Rises conds
    → slice_get (keys_of conds) i ≡ Some k → i < length values
    → condition_value (named_values conds values) k ≡ get_or values i o
unfolding IsStrictlySortedBy
value_of_key no_members values i k o up at below = cc
value_of_key (member l d ms) [] i k o up at below = absurd (omega (arith, below))
value_of_key (member l d ms) (v ∷ values) zero k o up at below =
    let is : l ≡ k = cc in
    subst (λ (z : List ℕ). condition_value (with_value l v (named_values ms values)) z ≡ v) is
    (value_first l v ms values up.0)
value_of_key (member l d ms) (v ∷ values) (suc i) k o up at below =
    value_in_front k l v (named_values ms values) false (differs l k (behind_at l (keys_of ms) i k up.0 at))
    ∙ value_of_key ms values i k o up.1 at (omega (arith, below))

-- a new value at a place changes that of no other name
value_of_other : (conds : Members) (values : List (Option Bool)) (i : ℕ) (k name : List ℕ) (o : Option Bool)
    → slice_get (keys_of conds) i ≡ Some k → bytes_eq k name ≡ false
    → condition_value (named_values conds (set values i o)) name ≡ condition_value (named_values conds values) name
value_of_other no_members values i k name o at other = refl
value_of_other (member l d ms) [] i k name o at other = refl
value_of_other (member l d ms) (v ∷ values) zero k name o at other =
    let is : k ≡ l = cc in
    let apart : bytes_eq l name ≡ false = subst (λ (z : List ℕ). bytes_eq z name ≡ false) is other in
    value_in_front name l o (named_values ms values) false apart
    ∙ sym (value_in_front name l v (named_values ms values) false apart)
value_of_other (member l d ms) (v ∷ values) (suc i) k name o at other =
    by (bytes_eq l name) refl (value_of_other ms values i k name o at other)
  where
    by : (b : Bool) → bytes_eq l name ≡ b
        → condition_value (named_values ms (set values i o)) name ≡ condition_value (named_values ms values) name
        → condition_value (with_value l v (named_values ms (set values i o))) name
        ≡ condition_value (with_value l v (named_values ms values)) name
    by true same rest =
        value_in_front name l v (named_values ms (set values i o)) true same ∙ ap (option_or v) rest
        ∙ sym (value_in_front name l v (named_values ms values) true same)
    by false apart rest =
        value_in_front name l v (named_values ms (set values i o)) false apart ∙ rest
        ∙ sym (value_in_front name l v (named_values ms values) false apart)

-- where there is a value or none for each condition, the values by place are those by name
pub values_by_name : (conds : Members) (values : List (Option Bool)) → Rises conds
    → length values ≡ length (keys_of conds)
    → values ≡ map (condition_value (named_values conds values)) (keys_of conds)
unfolding IsStrictlySortedBy
values_by_name no_members [] up count = refl
values_by_name no_members (v ∷ values) up count = absurd (omega (arith, count))
values_by_name (member l d ms) [] up count = absurd (omega (arith, count))
values_by_name (member l d ms) (v ∷ values) up count =
    let head : condition_value (with_value l v (named_values ms values)) l ≡ v = value_first l v ms values up.0 in
    let rest : values ≡ map (condition_value (named_values ms values)) (keys_of ms) =
    values_by_name ms values up.1 (omega (arith, count)) in
    let same : map (condition_value (named_values ms values)) (keys_of ms)
    ≡ map (condition_value (with_value l v (named_values ms values))) (keys_of ms) = others (keys_of ms) up.0 in
    cc
  where
    others : (ks : List (List ℕ)) → Behind l ks
        → map (condition_value (named_values ms values)) ks
        ≡ map (condition_value (with_value l v (named_values ms values))) ks
    others [] all = refl
    others (n ∷ ks) all =
        let head : condition_value (with_value l v (named_values ms values)) n
        ≡ condition_value (named_values ms values) n =
        value_in_front n l v (named_values ms values) false (differs l n all.0) in
        let rest : map (condition_value (named_values ms values)) ks
        ≡ map (condition_value (with_value l v (named_values ms values))) ks = others ks all.1 in
        cc

-- where there is no value none has one
pub none_named : (ms : List Member) → named_values (members_of ms) (replicate (length ms) None) ≡ []
none_named [] = refl
none_named (m ∷ ms) = none_named ms

pub none_found : (params : Members) (ms : List Member)
    → AreFound params (members_of ms) (replicate (length ms) None)
none_found params ms = record {
  count = length-replicate (length ms) None ∙ sym (keys_count ms);
  right = subst (λ (known : List Condition). IsWithin known (values_of params (members_of ms))) (sym (none_named ms))
      (record { kept = λ name b is. cc });
}

-- as many places as there are conditions
pub found_count : (params : Members) (ms : List Member) (values : List (Option Bool))
    → AreFound params (members_of ms) values → length values ≡ length ms
found_count params ms values found = found.count ∙ keys_count ms

-- ---- one condition

-- a condition at a place, where these values were found
pub record IsAt (params conds : Members) (values : List (Option Bool)) (i : ℕ) (k : List ℕ) (d : Data) : Type 0 where
  pub rising : Rises conds
  pub found : AreFound params conds values
  pub key : slice_get (keys_of conds) i ≡ Some k
  pub value : lookup k conds ≡ Some d

pub is_at_place : (params : Members) (ms : List Member) (values : List (Option Bool)) (i : ℕ) (m : Member)
    → Rises (members_of ms) → AreFound params (members_of ms) values → i < length ms → m ≡ get_or ms i m
    → IsAt params (members_of ms) values i m.key (data_of m.value)
is_at_place params ms values i m rising found below at = record {
  rising = rising;
  found = found;
  key = key_at ms i m below at;
  value = value_at ms i m rising below at;
}

module _ {params conds : Members} {values : List (Option Bool)} {i : ℕ} {k : List ℕ} {d : Data}
    (here : IsAt params conds values i k d) where
  within : i < length values
  within = omega (arith, here.found.count, slice_get_within (keys_of conds) i k here.key)

  value_here : (o : Option Bool) → condition_value (named_values conds values) k ≡ get_or values i o
  value_here o = value_of_key conds values i k o here.rising here.key within

  -- the value that it has at last is the flag that it gives then
  at_last : condition_value (values_of params conds) k ≡ flag_of params (values_of params conds) d
  at_last = value_is params conds k here.rising
      ∙ ap (option_and_then (flag_of params (values_of params conds))) here.value

  -- it is found here, if its flag is
  found_here : (new : List (Option Bool))
      → ((b : Bool) → flag_of params (named_values conds values) d ≡ Some b
      → condition_value (named_values conds new) k ≡ Some b) → IsFoundAt params conds values new i
  found_here new gives = record { value = λ name e b there has flag. by name e there has b flag }
    where
      by : (name : List ℕ) (e : Data) → slice_get (keys_of conds) i ≡ Some name → lookup name conds ≡ Some e
          → (b : Bool) → flag_of params (named_values conds values) e ≡ Some b
          → condition_value (named_values conds new) name ≡ Some b
      by name e there has b flag =
          let both : Some k ≡ Some name = sym here.key ∙ there in
          let same : k ≡ name = cc in
          let under : Some d ≡ Some e = sym here.value ∙ ap (λ n. lookup n conds) same ∙ has in
          let value : d ≡ e = cc in
          ap (condition_value (named_values conds new)) (sym same)
          ∙ gives b (ap (flag_of params (named_values conds values)) value ∙ flag)

  -- what has a value already has that of its flag
  pub found_before : (o : Option Bool) → o ≡ get_or values i o → is_some o ≡ true
      → IsFoundAt params conds values values i
  found_before None there some = cc
  found_before (Some v) there some = found_here values (λ b flag.
      let value : condition_value (named_values conds values) k ≡ Some v = value_here (Some v) ∙ sym there in
      let last : condition_value (values_of params conds) k ≡ Some v = here.found.right.kept k v value in
      let gives : flag_of params (values_of params conds) d ≡ Some b =
      flag_stays params (named_values conds values) (values_of params conds) here.found.right d b flag in
      let same : Some v ≡ Some b = sym last ∙ at_last ∙ gives in
      value ∙ same)

  pub found_nothing : flag_of params (named_values conds values) d ≡ None → IsFoundAt params conds values values i
  found_nothing none = found_here values (λ b flag. let never : None ≡ Some b = sym none ∙ flag in cc)

  -- ---- a value more

  module _ (v : Bool) (flag : flag_of params (named_values conds values) d ≡ Some v)
      (o : Option Bool) (there : o ≡ get_or values i o) (none : is_some o ≡ false) where
    fresh : (r : Option Bool) → is_some r ≡ false → r ≡ None
    fresh None is = refl
    fresh (Some b) is = cc

    value_before : condition_value (named_values conds values) k ≡ None
    value_before = value_here o ∙ sym there ∙ fresh o none

    value_now : condition_value (named_values conds (set values i (Some v))) k ≡ Some v
    value_now =
        value_of_key conds (set values i (Some v)) i k o here.rising here.key
        (omega (arith, length-set values i (Some v), within))
        ∙ get_or-set_same values i (Some v) o within

    value_else : (name : List ℕ) → bytes_eq k name ≡ false
        → condition_value (named_values conds (set values i (Some v))) name
        ≡ condition_value (named_values conds values) name
    value_else name other = value_of_other conds values i k name (Some v) here.key other

    pub found_now : AreFound params conds (set values i (Some v))
    found_now = record {
      count = length-set values i (Some v) ∙ here.found.count;
      right = record { kept = λ name b has. by name b (bytes_eq k name) refl has };
    }
      where
        by : (name : List ℕ) (b : Bool) (e : Bool) → bytes_eq k name ≡ e
            → condition_value (named_values conds (set values i (Some v))) name ≡ Some b
            → condition_value (values_of params conds) name ≡ Some b
        by name b true same has =
            let names : k ≡ name = (bytes_eq-Decides k name).0 same in
            ap (condition_value (values_of params conds)) (sym names) ∙ at_last
            ∙ flag_stays params (named_values conds values) (values_of params conds) here.found.right d v flag
            ∙ sym value_now ∙ ap (condition_value (named_values conds (set values i (Some v)))) names ∙ has
        by name b false other has = here.found.right.kept name b (sym (value_else name other) ∙ has)

    pub found_grows : Grows conds values (set values i (Some v))
    found_grows = record { kept = λ name b has. by name b (bytes_eq k name) refl has }
      where
        by : (name : List ℕ) (b : Bool) (e : Bool) → bytes_eq k name ≡ e
            → condition_value (named_values conds values) name ≡ Some b
            → condition_value (named_values conds (set values i (Some v))) name ≡ Some b
        by name b true same has =
            let names : k ≡ name = (bytes_eq-Decides k name).0 same in
            let never : None ≡ Some b =
            sym value_before ∙ ap (condition_value (named_values conds values)) names ∙ has in
            cc
        by name b false other has = value_else name other ∙ has

    pub found_anew : FindsOne conds values (set values i (Some v))
    found_anew = record { name = k; value = v; before = value_before; after = value_now }

    pub found_more : IsFoundAt params conds values (set values i (Some v)) i
    found_more = found_here (set values i (Some v)) (λ b gives. value_now ∙ sym flag ∙ gives)

pub grows_none : (conds : Members) (values : List (Option Bool)) → Grows conds values values
grows_none conds values = within_itself (named_values conds values)

-- what was evaluated where these are known
pub flag_told : (params : Members) (m : Member) (known seen : List Condition) (o : Option Bool) → seen ≡ known
    → o ≡ flag_of params seen (data_of m.value) → flag_of params known (data_of m.value) ≡ o
flag_told params m known seen o same is =
    ap (λ (k : List Condition). flag_of params k (data_of m.value)) (sym same) ∙ sym is
