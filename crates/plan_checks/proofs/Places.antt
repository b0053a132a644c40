-- The place of an item by its name.
use Rattle.std.proofs.Common.{◌≡◌, ◌∙◌, ◌<◌, ℕ, zero, suc, List, [], ◌∷◌, Some, Contains, slice_get, length, get_or, refl, sym, ap}
use Rattle.std.proofs.Common.{subst, inl, inr, ◌⊎◌, arith}
use Rattle.std.specs.Ordering.{nat_cmp}
use Rattle.std.specs.Cmp.Lexicographic.{slice_cmp}
use Rattle.std.proofs.lemmas.Option.{slice_get_within, get_or_from_slice_get}
use Rattle.heat_plan.specs.Order.{Rising}
use Rattle.heat_plan.specs.Plans.{names_of}
use Rattle.heat_plan.specs.declared.item.Item.{Item}
use Rattle.traversal_graph.specs.Candidates.{place_of}
use Rattle.std.specs.declared.cmp.Ordering.TheVariants.{Equal}
use Rattle.traversal_graph.proofs.PlaceLemmas.{place_found}
use Rattle.traversal_graph.proofs.NeedMembers.{same_name, place_there, place_least}
use Rattle.plan_checks.specs.Needs.{IsNamedAt}
use Rattle.plan_checks.proofs.Members.{front_cases, first_is, none_in, behind}

-- a name of the items is one item's
pub item_named : (is : List Item) (name : List ℕ) → Contains (names_of is) name
    → (p : ℕ) × (i : Item) × (slice_get is p ≡ Some i) × (i.name ≡ name)
item_named [] name h = absurd (none_in name h)
item_named (i ∷ is) name h = by (front_cases i.name (names_of is) name h) (item_named is name)
  where
    by : (name ≡ i.name) ⊎ Contains (names_of is) name
        → (Contains (names_of is) name → (p : ℕ) × (j : Item) × (slice_get is p ≡ Some j) × (j.name ≡ name))
        → (p : ℕ) × (j : Item) × (slice_get (i ∷ is) p ≡ Some j) × (j.name ≡ name)
    by (inl e) more = (0, i, refl, sym e)
    by (inr in') more = let r = more in' in (suc r.0, r.1, r.2, r.3)

-- the place at which an item of the name stands is the name's
pub place_is : (is : List Item) (name : List ℕ) (p : ℕ) (i : Item) → Rising (names_of is) → slice_get is p ≡ Some i
    → i.name ≡ name
    → p ≡ place_of is name
place_is is name p i up at named =
    place_found is name p up (slice_get_within is p i at)
    (λ d. ap (λ (n : List ℕ). slice_cmp nat_cmp n name)
    (ap (λ (x : Item). x.name) (get_or_from_slice_get is p i d at) ∙ named) ∙ same_name name)

-- a name's place is below the count of the items
pub place_within : (is : List Item) (name : List ℕ) → Contains (names_of is) name → place_of is name < length is
place_within is name h =
    let r = item_named is name h in
    let inside : r.0 < length is = slice_get_within is r.0 r.1 r.2 in
    omega (arith, inside, place_least is name r.0 r.1 r.2 r.3)

pub named_at_place : (is : List Item) (name : List ℕ) (p : ℕ) → Contains (names_of is) name → p ≡ place_of is name
    → IsNamedAt is (name ∷ []) p
named_at_place is name p h here =
    let stands = place_there is name (place_within is name h) in
    let at : slice_get is p ≡ Some stands.0 = subst (λ (q : ℕ). slice_get is q ≡ Some stands.0) (sym here) stands.1 in
    record {
      item = stands.0;
      found = at;
      named = first_is name [] stands.0.name stands.2;
    }

-- the name whose place is none's isn't an item's
pub place_past : (is : List Item) (name : List ℕ) → Contains (names_of is) name → length is ≡ place_of is name → ⊥
place_past is name h past = let inside = place_within is name h in absurd (omega (arith, inside, past))

-- the name of an item is among their names
name_there : (is : List Item) (name : List ℕ) (p : ℕ) (i : Item) → slice_get is p ≡ Some i → i.name ≡ name
    → Contains (names_of is) name
name_there [] name p i at named = absurd (omega (arith, slice_get_within [] p i at))
name_there (x ∷ is) name zero i at named =
    let same : x ≡ i = cc in
    first_is x.name (names_of is) name (sym (ap (λ (y : Item). y.name) same ∙ named))
name_there (x ∷ is) name (suc p) i at named = behind x.name (names_of is) name (name_there is name p i at named)

-- a name that was found is among them
pub found_named : (is : List Item) (name : List ℕ) (p : ℕ) → Rising (names_of is) → p < length is
    → ((d : Item) → slice_cmp nat_cmp (get_or is p d).name name ≡ Equal) → Contains (names_of is) name
found_named is name p up inside same =
    let here : p ≡ place_of is name = place_found is name p up inside same in
    let stands = place_there is name (omega (arith, here, inside)) in
    name_there is name (place_of is name) stands.0 stands.1 stands.2

-- two items of one name stand at one place
pub one_place : (is : List Item) (name : List ℕ) (p q : ℕ) → Rising (names_of is) → IsNamedAt is (name ∷ []) p
    → IsNamedAt is (name ∷ []) q → p ≡ q
one_place is name p q up a b =
    place_is is name p a.item up a.found (alone a.item.name (front_cases name [] a.item.name a.named))
    ∙ sym (place_is is name q b.item up b.found (alone b.item.name (front_cases name [] b.item.name b.named)))
  where
    alone : (n : List ℕ) → (n ≡ name) ⊎ Contains [] n → n ≡ name
    alone n (inl e) = e
    alone n (inr none) = absurd (none_in n none)

pub named_within : (is : List Item) (names : List (List ℕ)) (p : ℕ) → IsNamedAt is names p → p < length is
named_within is names p h = slice_get_within is p h.item h.found
