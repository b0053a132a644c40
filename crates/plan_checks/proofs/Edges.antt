-- The edges of needs, one need and one item more.
use Rattle.std.proofs.Common.{◌≡◌, ◌↔◌, ◌⊎◌, ◌∙◌, ◌<◌, ◌≤◌, ◌+◌, ℕ, List, [], ◌∷◌, ◌++◌, Some, Contains, slice_get}
use Rattle.std.proofs.Common.{length, get_or, take, refl, sym, ap, subst, inl, inr, arith}
use Rattle.std.proofs.lemmas.List.{take_more, take_all}
use Rattle.std.proofs.lemmas.List.Elements.{Contains-push, Contains-push_cases, Contains-append_left}
use Rattle.std.proofs.lemmas.Bool.{cases_lt}
use Rattle.std.proofs.lemmas.Option.{slice_get-get_or, slice_get_within}
use Rattle.dep_graph.specs.Edges.{Links, HasEdge, IsBare, AddsEdge}
use Rattle.heat_plan.specs.Order.{Rising}
use Rattle.heat_plan.specs.Plans.{names_of}
use Rattle.heat_plan.specs.declared.item.Item.{Item}
use Rattle.traversal_graph.specs.Relations.{IsNeeded}
use Rattle.plan_checks.specs.Needs.{IsNamedAt, AddsNeeds, HasNeeds}
use Rattle.plan_checks.proofs.Members.{none_in, first_is}
use Rattle.plan_checks.proofs.Places.{one_place}

-- ---- the needs of one item

pub adds_none : (is : List Item) (after : ℕ) (graph : Links) → AddsNeeds is [] after graph graph
adds_none is after graph = record { same = refl; edges = λ x y. (inl, by x y) }
  where
    by : (x y : ℕ) → HasEdge graph x y ⊎ (IsNamedAt is [] x × (y ≡ after)) → HasEdge graph x y
    by x y (inl h) = h
    by x y (inr h) = absurd (none_in h.0.item.name h.0.named)

-- one name more
named_push : (is : List Item) (names : List (List ℕ)) (name : List ℕ) (p x : ℕ) → Rising (names_of is)
    → IsNamedAt is (name ∷ []) p
    → IsNamedAt is (names ++ name ∷ []) x → IsNamedAt is names x ⊎ (x ≡ p)
named_push is names name p x up at h = by (Contains-push_cases names name h.item.name h.named)
  where
    by : Contains names h.item.name ⊎ (name ≡ h.item.name) → IsNamedAt is names x ⊎ (x ≡ p)
    by (inl in') = inl (record { item = h.item; found = h.found; named = in' })
    by (inr e) = inr (one_place is name x p up
        (record { item = h.item; found = h.found; named = first_is name [] h.item.name (sym e) }) at)

named_left : (is : List Item) (names : List (List ℕ)) (name : List ℕ) (x : ℕ) → IsNamedAt is names x
    → IsNamedAt is (names ++ name ∷ []) x
named_left is names name x h =
    record { item = h.item; found = h.found; named = Contains-append_left names (name ∷ []) h.item.name h.named }

named_last : (is : List Item) (names : List (List ℕ)) (name : List ℕ) (p : ℕ) → IsNamedAt is (name ∷ []) p
    → IsNamedAt is (names ++ name ∷ []) p
named_last is names name p h = record {
  item = h.item;
  found = h.found;
  named = last (Contains-push_cases [] name h.item.name h.named);
}
  where
    last : Contains [] h.item.name ⊎ (name ≡ h.item.name) → Contains (names ++ name ∷ []) h.item.name
    last (inl none) = absurd (none_in h.item.name none)
    last (inr e) = subst (λ (n : List ℕ). Contains (names ++ name ∷ []) n) e (Contains-push names name)

adds_push : (is : List Item) (names : List (List ℕ)) (name : List ℕ) (after p : ℕ) (old mid new : Links)
    → Rising (names_of is)
    → AddsNeeds is names after old mid → IsNamedAt is (name ∷ []) p → AddsEdge p after mid new
    → AddsNeeds is (names ++ name ∷ []) after old new
adds_push is names name after p old mid new up adds at edge = record {
  same = edge.same ∙ adds.same;
  edges = λ x y. ((λ h. there x y ((edge.edges x y).0 h)), (λ h. (edge.edges x y).1 (back x y h)));
}
  where
    before : (x y : ℕ) → HasEdge old x y ⊎ (IsNamedAt is names x × (y ≡ after))
        → HasEdge old x y ⊎ (IsNamedAt is (names ++ name ∷ []) x × (y ≡ after))
    before x y (inl h) = inl h
    before x y (inr h) = inr (named_left is names name x h.0, h.1)

    there : (x y : ℕ) → HasEdge mid x y ⊎ ((x ≡ p) × (y ≡ after))
        → HasEdge old x y ⊎ (IsNamedAt is (names ++ name ∷ []) x × (y ≡ after))
    there x y (inl h) = before x y ((adds.edges x y).0 h)
    there x y (inr h) = inr (subst (IsNamedAt is (names ++ name ∷ [])) (sym h.0) (named_last is names name p at), h.1)

    split : (x y : ℕ) → y ≡ after → IsNamedAt is names x ⊎ (x ≡ p) → HasEdge mid x y ⊎ ((x ≡ p) × (y ≡ after))
    split x y e (inl h) = inl ((adds.edges x y).1 (inr (h, e)))
    split x y e (inr h) = inr (h, e)

    back : (x y : ℕ) → HasEdge old x y ⊎ (IsNamedAt is (names ++ name ∷ []) x × (y ≡ after))
        → HasEdge mid x y ⊎ ((x ≡ p) × (y ≡ after))
    back x y (inl h) = inl ((adds.edges x y).1 (inl h))
    back x y (inr h) = split x y h.1 (named_push is names name p x up at h.0)

pub adds_more : (is : List Item) (names : List (List ℕ)) (n : ℕ) (name : List ℕ) (after p : ℕ) (old mid new : Links)
    → Rising (names_of is)
    → n < length names → name ≡ get_or names n name → AddsNeeds is (take n names) after old mid
    → IsNamedAt is (name ∷ []) p
    → AddsEdge p after mid new → AddsNeeds is (take (n + 1) names) after old new
adds_more is names n name after p old mid new up below at adds found edge =
    let more : take (n + 1) names ≡ take n names ++ name ∷ [] = take_more names n name below
    ∙ ap (λ (w : List ℕ). take n names ++ w ∷ []) (sym at) in
    rw more (adds_push is (take n names) name after p old mid new up adds found edge)

pub adds_all : (is : List Item) (names : List (List ℕ)) (n after : ℕ) (old new : Links) → length names ≤ n
    → AddsNeeds is (take n names) after old new → AddsNeeds is names after old new
adds_all is names n after old new le h = rw (take_all n names le) at h

-- ---- all items

pub has_none : (is : List Item) (graph : Links) → IsBare (length is) graph → HasNeeds is 0 graph
has_none is graph bare = record {
  same = bare.size_is;
  edges = λ x y. ((λ h. absurd (bare.bare x y h)), (λ h. absurd (omega (arith, h.0))));
}

pub has_more : (is : List Item) (n : ℕ) (i : Item) (mid new : Links) → n < length is → i ≡ get_or is n i
    → HasNeeds is n mid
    → AddsNeeds is i.needs n mid new → HasNeeds is (n + 1) new
has_more is n i mid new below at has adds = record {
  same = adds.same ∙ has.same;
  edges = λ x y. ((λ h. there x y ((adds.edges x y).0 h)), (λ h. (adds.edges x y).1 (back x y h)));
}
  where
    here : slice_get is n ≡ Some i
    here = slice_get-get_or is n i below ∙ ap (λ (x : Item). Some x) (sym at)

    needed : (x y : ℕ) → y ≡ n → IsNamedAt is i.needs x → IsNeeded is x y
    needed x y e h = record {
      needed = h.item;
      needing = i;
      needed_at = h.found;
      needing_at = subst (λ (k : ℕ). slice_get is k ≡ Some i) (sym e) here;
      needs = h.named;
    }

    there : (x y : ℕ) → HasEdge mid x y ⊎ (IsNamedAt is i.needs x × (y ≡ n)) → (y < n + 1) × IsNeeded is x y
    there x y (inl h) = let r = (has.edges x y).0 h in (omega (arith, r.0), r.1)
    there x y (inr h) = (omega (arith, h.1), needed x y h.1 h.0)

    last : (x y : ℕ) → y ≡ n → IsNeeded is x y → IsNamedAt is i.needs x
    last x y e h =
        let also : slice_get is n ≡ Some h.needing =
        subst (λ (k : ℕ). slice_get is k ≡ Some h.needing) e h.needing_at in
        let both : Some h.needing ≡ Some i = sym also ∙ here in
        let same : h.needing ≡ i = cc in
        record {
          item = h.needed;
          found = h.needed_at;
          named = subst (λ (j : Item). Contains j.needs h.needed.name) same h.needs;
        }

    split : (x y : ℕ) → IsNeeded is x y → (y < n) ⊎ (y ≡ n) → HasEdge mid x y ⊎ (IsNamedAt is i.needs x × (y ≡ n))
    split x y h (inl lt) = inl ((has.edges x y).1 (lt, h))
    split x y h (inr e) = inr (last x y e h, e)

    cases : (y : ℕ) → y < n + 1 → (y < n) ⊎ (y ≡ n)
    cases y lt = by (cases_lt y n)
      where
        by : (y < n) ⊎ (n ≤ y) → (y < n) ⊎ (y ≡ n)
        by (inl l) = inl l
        by (inr l) = inr (omega (arith, lt, l))

    back : (x y : ℕ) → (y < n + 1) × IsNeeded is x y → HasEdge mid x y ⊎ (IsNamedAt is i.needs x × (y ≡ n))
    back x y h = split x y h.1 (cases y h.0)

-- the graph of all items has exactly their needs as edges
pub needs_are_edges : (is : List Item) (graph : Links) → HasNeeds is (length is) graph → (x y : ℕ)
    → HasEdge graph x y ↔ IsNeeded is x y
needs_are_edges is graph has x y =
    ((λ h. ((has.edges x y).0 h).1), (λ h. (has.edges x y).1 (slice_get_within is y h.needing h.needing_at, h)))
