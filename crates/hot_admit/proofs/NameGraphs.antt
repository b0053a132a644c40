-- The graph of what conditions name, one condition more.
use Rattle.std.proofs.Common.{◌≡◌, ◌⊎◌, ◌∙◌, ◌<◌, ◌≤◌, ◌+◌, ℕ, zero, suc, List, [], ◌∷◌, Some, Contains}
use Rattle.std.proofs.Common.{slice_get, length, get_or, option_map, sym, ap, subst, inl, inr, arith}
use Rattle.std.proofs.lemmas.Bool.{cases_lt}
use Rattle.std.proofs.lemmas.Option.{slice_get-get_or, slice_get_within}
use Rattle.dep_graph.specs.Edges.{Links, HasEdge, IsBare}
use Rattle.heat_value.proofs.Searches.{lookup_placed, at_place}
use Rattle.heat_value.specs.Data.{Data, keys_of, lookup, Rises}
use Rattle.heat_value.specs.Meaning.{data_of, members_of}
use Rattle.heat_value.specs.declared.value.Member.{Member}
use Rattle.hot_admit.specs.Naming.{IsNamedBy, HasNames, HasFirstNames, HasNameAt, AddsNames}
use Rattle.eval_words.specs.Conditions.{names_read}
use Rattle.hot_functions.specs.declared.place.Place.TheVariants as place
use Rattle.hot_admit.proofs.Keyed.{is_at, keys_count}

pub key_at : (ms : List Member) (i : ℕ) (m : Member) → i < length ms → m ≡ get_or ms i m
    → slice_get (keys_of (members_of ms)) i ≡ Some m.key
key_at [] i m below at = absurd (omega (arith, below))
key_at (x ∷ ms) zero m below at = ap (λ (z : Member). Some z.key) (sym at)
key_at (x ∷ ms) (suc i) m below at = key_at ms i m (omega (arith, below)) at

-- what stands under the name of the condition at a place is its expression
pub value_at : (ms : List Member) (i : ℕ) (m : Member) → Rises (members_of ms) → i < length ms → m ≡ get_or ms i m
    → lookup m.key (members_of ms) ≡ Some (data_of m.value)
value_at ms i m up below at =
    lookup_placed m.key ms up ∙ ap (λ r. at_place r ms) (is_at m.key ms i up (key_at ms i m below at))
    ∙ ap (option_map (λ (z : Member). data_of z.value)) (slice_get-get_or ms i m below ∙ ap Some (sym at))

pub first_none : (ms : List Member) (graph : Links) → IsBare (length ms) graph → HasFirstNames (members_of ms) 0 graph
first_none ms graph bare = record {
  same = bare.size_is ∙ sym (keys_count ms);
  edges = λ x y. ((λ h. absurd (bare.bare x y h)), (λ h. absurd (omega (arith, h.0))));
}

pub first_more : (ms : List Member) (n : ℕ) (m : Member) (names : List (List ℕ)) (mid new : Links)
    → Rises (members_of ms) → n < length ms → m ≡ get_or ms n m → HasFirstNames (members_of ms) n mid
    → names ≡ names_read place.Condition (data_of m.value) → AddsNames (members_of ms) names n mid new
    → HasFirstNames (members_of ms) (n + 1) new
first_more ms n m names mid new up below at has read adds = record {
  same = adds.same ∙ has.same;
  edges = λ x y. ((λ h. there x y ((adds.edges x y).0 h)), (λ h. (adds.edges x y).1 (back x y h)));
}
  where
    here : slice_get (keys_of (members_of ms)) n ≡ Some m.key
    here = key_at ms n m below at

    named : (x y : ℕ) → y ≡ n → HasNameAt (members_of ms) names x → IsNamedBy (members_of ms) x y
    named x y e h = record {
      named = h.name;
      naming = m.key;
      named_at = h.found;
      naming_at = subst (λ (k : ℕ). slice_get (keys_of (members_of ms)) k ≡ Some m.key) (sym e) here;
      names = (
        data_of m.value,
        value_at ms n m up below at,
        subst (λ (ns : List (List ℕ)). Contains ns h.name) read h.named,
      );
    }

    there : (x y : ℕ) → HasEdge mid x y ⊎ (HasNameAt (members_of ms) names x × (y ≡ n))
        → (y < n + 1) × IsNamedBy (members_of ms) x y
    there x y (inl h) = let r = (has.edges x y).0 h in (omega (arith, r.0), r.1)
    there x y (inr h) = (omega (arith, h.1), named x y h.1 h.0)

    last : (x y : ℕ) → y ≡ n → IsNamedBy (members_of ms) x y → HasNameAt (members_of ms) names x
    last x y e h =
        let also : slice_get (keys_of (members_of ms)) n ≡ Some h.naming =
        subst (λ (k : ℕ). slice_get (keys_of (members_of ms)) k ≡ Some h.naming) e h.naming_at in
        let both : Some h.naming ≡ Some m.key = sym also ∙ here in
        let same : h.naming ≡ m.key = cc in
        let found : Some h.names.0 ≡ Some (data_of m.value) =
        sym h.names.1 ∙ ap (λ (k : List ℕ). lookup k (members_of ms)) same ∙ value_at ms n m up below at in
        let value : h.names.0 ≡ data_of m.value = cc in
        record {
          name = h.named;
          found = h.named_at;
          named = rw read (subst (λ (d : Data). Contains (names_read place.Condition d) h.named) value h.names.2);
        }

    split : (x y : ℕ) → IsNamedBy (members_of ms) x y → (y < n) ⊎ (y ≡ n)
        → HasEdge mid x y ⊎ (HasNameAt (members_of ms) names x × (y ≡ n))
    split x y h (inl lt) = inl ((has.edges x y).1 (lt, h))
    split x y h (inr e) = inr (last x y e h, e)

    cases : (y : ℕ) → y < n + 1 → (y < n) ⊎ (y ≡ n)
    cases y lt = by (cases_lt y n)
      where
        by : (y < n) ⊎ (n ≤ y) → (y < n) ⊎ (y ≡ n)
        by (inl l) = inl l
        by (inr l) = inr (omega (arith, lt, l))

    back : (x y : ℕ) → (y < n + 1) × IsNamedBy (members_of ms) x y
        → HasEdge mid x y ⊎ (HasNameAt (members_of ms) names x × (y ≡ n))
    back x y h = split x y h.1 (cases y h.0)

-- the graph of all conditions has exactly their names as edges
pub all_names : (ms : List Member) (graph : Links) → HasFirstNames (members_of ms) (length ms) graph
    → HasNames (members_of ms) graph
all_names ms graph has = record {
  same = has.same;
  edges = λ x y. (
    (λ h. ((has.edges x y).0 h).1),
    (λ h. (has.edges x y).1 (
      omega (arith, slice_get_within (keys_of (members_of ms)) y h.naming h.naming_at, keys_count ms),
      h,
    )),
  );
}
