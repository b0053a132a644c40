-- An order of the items' places makes a listing of the items.
use Rattle.std.proofs.Common.{◌≡◌, ◌⊎◌, ℕ, zero, suc, ◌+◌, ◌<◌, ◌≤◌, eqb, false, List, [], ◌∷◌, ◌++◌, length, get_or, map, take, drop, Some, None, Option, option_map, refl, sym, ap, subst, ◌∙◌, inl, inr, arith}
use Rattle.std.specs.Prelude.{All, Contains, IsPermutation, slice_get}
use Rattle.std.specs.List.{IsDistinct, AllByRecursion, remove}
use Rattle.std.proofs.lemmas.Bool.{eqb-true, eq-eqb, cases_eq, false_from_ne_true, false≢true}
use Rattle.std.proofs.lemmas.Bool.Decides.{nat_tests}
use Rattle.std.proofs.lemmas.List.{get_or-map, length-map, length-take-le, get_or-take, take-append-drop, drop_more, drop_all}
use Rattle.std.proofs.lemmas.List.Elements.{All-contains, All-from_recursion, Contains-append_right, Contains-append_cases, Contains-get_or}
use Rattle.std.proofs.lemmas.List.Sorted.{Contains-permutation, IsPermutation-sym, IsPermutation-trans, IsPermutation-cons, IsPermutation-remove, IsPermutation-map, IsPermutation-refl}
use Rattle.std.proofs.lemmas.Map.Keys.{IsDistinct-IsPermutation, IsDistinct-cons}
use Rattle.std.proofs.lemmas.Option.{slice_get_within, slice_get-get_or, get_or_from_slice_get, slice_get-map, same_Some, none-some}
use Rattle.dep_graph.specs.Orders.{Orders}
use Rattle.heat_plan.specs.Plans.{names_of, StandsBefore, IsListing, HasNoCycle}
use Rattle.heat_plan.specs.declared.item.Item.{Item}
use Rattle.traversal_graph.specs.Relations.{IsNeeded}
use Rattle.traversal_graph.proofs.EachMembers.{Contains-front}

single : (x y : ℕ) → Contains (x ∷ []) y → x ≡ y
single x y (zero, lt, e) = e
single x y (suc k, lt, e) = absurd (omega (arith, lt))

cons_cases : (x : ℕ) (xs : List ℕ) (y : ℕ) → Contains (x ∷ xs) y → (x ≡ y) ⊎ Contains xs y
cons_cases x xs y c = elim (Contains-append_cases (x ∷ []) xs y c) [ inl k ↦ inl (single x y k) | inr k ↦ inr k ]

-- ---- numbers one after another

abbrev upto : ℕ → ℕ → List ℕ
upto i zero = []
upto i (suc n) = i ∷ upto (suc i) n

in_upto : (i n x : ℕ) → Contains (upto i n) x → (i ≤ x) × (x < i + n)
in_upto i zero x c = absurd (omega (arith, c.1))
in_upto i (suc n) x c = elim (cons_cases i (upto (suc i) n) x c) [
  | inl e ↦ (omega arith, omega arith)
  | inr k ↦ (let h = in_upto (suc i) n x k in (omega (arith, h.0), omega (arith, h.1)))
]

to_upto : (i n x : ℕ) → i ≤ x → x < i + n → Contains (upto i n) x
to_upto i zero x le lt = absurd (omega arith)
to_upto i (suc n) x le lt = elim (cases_eq x i) [
  | inl e ↦ (let C : ℕ → Type 0 = λ z. Contains (i ∷ upto (suc i) n) z in subst C (sym e) (Contains-front i (upto (suc i) n)))
  | inr ne ↦ Contains-append_right (i ∷ []) (upto (suc i) n) x (to_upto (suc i) n x (above ne) (omega arith))
]
  where
    above : (x ≡ i → ⊥) → suc i ≤ x
    above ne = omega (arith, ne)

below_upto : (i j n : ℕ) → i < j → AllByRecursion (λ y. eqb i y ≡ false) (upto j n)
below_upto i j zero lt = tt
below_upto i j (suc n) lt = (false_from_ne_true (eqb i j) (λ t. absurd (omega (arith, lt, eqb-true i j t))), below_upto i (suc j) n (omega arith))

distinct_none : IsDistinct eqb []
unfolding IsDistinct
distinct_none = tt

distinct_upto : (i n : ℕ) → IsDistinct eqb (upto i n)
distinct_upto i zero = distinct_none
distinct_upto i (suc n) = IsDistinct-cons eqb i (upto (suc i) n) (below_upto i (suc i) n (omega arith)) (distinct_upto (suc i) n)

-- the items from a place on
items_from : (items : List Item) (d : Item) (i n : ℕ) → i + n ≡ length items → map (λ k. get_or items k d) (upto i n) ≡ drop i items
items_from items d i zero e = sym (drop_all i items (omega arith))
items_from items d i (suc n) e =
    let next : i + 1 ≡ suc i = omega arith in
    ap (λ l. get_or items i d ∷ l) (items_from items d (suc i) n (omega arith))
    ∙ ap (λ k. get_or items i d ∷ drop k items) (sym next) ∙ sym (drop_more items i d (omega arith))

-- ---- two lists of the same numbers, each once

eqb_flips : (x y : ℕ) → eqb x y ≡ eqb y x
eqb_flips x y = grind (arith, nat_tests)

not_fresh : (x y : ℕ) (l : List ℕ) → AllByRecursion (λ z. eqb x z ≡ false) l → Contains l y → x ≡ y → ⊥
not_fresh x y l fresh c e =
    let f : eqb x y ≡ false = All-contains (λ z. eqb x z ≡ false) l y (All-from_recursion (λ z. eqb x z ≡ false) l fresh) c in
    false≢true (sym f ∙ eq-eqb x y e)

same_numbers : (xs ys : List ℕ) → IsDistinct eqb xs → IsDistinct eqb ys → ((x : ℕ) → Contains xs x → Contains ys x)
    → ((x : ℕ) → Contains ys x → Contains xs x) → IsPermutation xs ys
unfolding IsDistinct
same_numbers [] [] a b to from = IsPermutation-refl []
same_numbers [] (y ∷ ys) a b to from = let c = from y (Contains-front y ys) in absurd (omega (arith, c.1))
same_numbers (x ∷ xs) ys (fresh, once) b to from =
    let c = to x (Contains-front x xs) in
    let left : List ℕ = remove ys c.0 in
    let moved : IsPermutation ys (x ∷ left) = IsPermutation-remove ys c.0 x c.1 (sym c.2) in
    let (fresh', once') = IsDistinct-IsPermutation eqb eqb_flips ys (x ∷ left) moved b in
    let rest = same_numbers xs left once once'
    (λ y k. elim (cons_cases x left y (Contains-permutation ys (x ∷ left) y moved (to y (Contains-append_right (x ∷ []) xs y k)))) [
      | inl e ↦ absurd (not_fresh x y xs fresh k e)
      | inr h ↦ h
    ])
    (λ y k. elim (cons_cases x xs y (from y (Contains-permutation (x ∷ left) ys y (IsPermutation-sym ys (x ∷ left) moved) (Contains-append_right (x ∷ []) left y k)))) [
      | inl e ↦ absurd (not_fresh x y left fresh' k e)
      | inr h ↦ h
    ]) in
    IsPermutation-trans (x ∷ xs) (x ∷ left) ys (IsPermutation-cons x xs left rest) (IsPermutation-sym ys (x ∷ left) moved)

-- ---- the listing

abbrev Met : List Item → Type 0
Met items = All (λ (i : Item). All (Contains (names_of items)) i.needs) items

module _ (items : List Item) (d : Item) (order : List ℕ) (met : Met items) (orders : Orders (IsNeeded items) (length items) order) where
  abbrev item_at : ℕ → Item
  item_at k = get_or items k d

  abbrev listed : List Item
  listed = map item_at order

  same : IsPermutation items listed
  same =
      let n : ℕ = length items in
      let numbers = same_numbers (upto 0 n) order (distinct_upto 0 n) orders.listed.once
      (λ x c. (orders.listed.all x).1 (omega (arith, (in_upto 0 n x c).1)))
      (λ x c. to_upto 0 n x (omega arith) (omega (arith, (orders.listed.all x).0 c))) in
      let P : List Item → Type 0 = λ l. IsPermutation l listed in
      subst P (items_from items d 0 n (omega arith)) (IsPermutation-map item_at (upto 0 n) order numbers)

  -- the place that an item of the listing comes from
  node_of : (p : ℕ) (i : Item) → slice_get listed p ≡ Some i → (node : ℕ) × (slice_get order p ≡ Some node) × (item_at node ≡ i)
  node_of p i at = by (slice_get order p) refl (sym (slice_get-map item_at order p) ∙ at)
    where
      by : (o : Option ℕ) → slice_get order p ≡ o → option_map item_at o ≡ Some i → (node : ℕ) × (slice_get order p ≡ Some node) × (item_at node ≡ i)
      by None e h = absurd (none-some i h)
      by (Some node) e h = (node, e, same_Some (item_at node) i h)

  -- a need's item stands before
  before : (p : ℕ) (i : Item) (node : ℕ) → slice_get order p ≡ Some node → item_at node ≡ i → (name : List ℕ) → Contains i.needs name → StandsBefore listed p name
  before p i node at is name needed =
      let in_order : Contains order node = (p, slice_get_within order p node at, get_or_from_slice_get order p node node at) in
      let inside : node < length items = (orders.listed.all node).0 in_order in
      let needing_at : slice_get items node ≡ Some i = slice_get-get_or items node d inside ∙ ap (λ (x : Item). Some x) is in
      let in_items : Contains items i = (node, inside, get_or_from_slice_get items node i i needing_at) in
      let all_met = All-contains (λ (x : Item). All (Contains (names_of items)) x.needs) items i met in_items in
      let named = All-contains (Contains (names_of items)) i.needs name all_met needed in
      let b : ℕ = named.0 in
      let b_inside : b < length items = omega (arith, named.1, length-map items (λ (x : Item). x.name)) in
      let its_name : name ≡ (item_at b).name = sym named.2 ∙ get_or-map (λ (x : Item). x.name) items b d name b_inside in
      let N : List ℕ → Type 0 = λ n. Contains i.needs n in
      let edge : IsNeeded items b node = record {
        needed = item_at b;
        needing = i;
        needed_at = slice_get-get_or items b d b_inside;
        needing_at = needing_at;
        needs = subst N its_name needed;
      } in
      let lt : p < length order = slice_get_within order p node at in
      let split : order ≡ take p order ++ node ∷ drop (p + 1) order =
      sym (take-append-drop p order) ∙ ap (λ l. take p order ++ l) (drop_more order p node lt ∙ ap (λ n. n ∷ drop (p + 1) order) (get_or_from_slice_get order p node node at)) in
      let c = orders.listed.forward (take p order) node (drop (p + 1) order) split b edge in
      let q : ℕ = c.0 in
      let q_before : q < p = omega (arith, c.1, length-take-le p order (omega (arith, lt))) in
      let q_at : slice_get order q ≡ Some b =
      slice_get-get_or order q b (omega (arith, q_before, lt)) ∙ ap (λ (n : ℕ). Some n) (sym (get_or-take p order q b q_before) ∙ c.2) in
      record {
        place = q;
        item = item_at b;
        earlier = q_before;
        found = slice_get-map item_at order q ∙ ap (option_map item_at) q_at;
        named = sym its_name;
      }

  pub listing : IsListing items listed
  listing = record {
    same = same;
    behind = λ p i at k e lt. (let from = node_of p i at in
        before p i from.0 from.1 from.2 (get_or i.needs k e) (Contains-get_or i.needs k e lt));
  }

  pub listing_there : HasNoCycle items
  listing_there = (listed, listing)

no_items : HasNoCycle []
no_items = (
  [],
  record {
    same = IsPermutation-refl [];
    behind = λ p i at. absurd (omega (arith, slice_get_within [] p i at));
  },
)

pub listing_from_order : (items : List Item) (order : List ℕ) → Met items → Orders (IsNeeded items) (length items) order → HasNoCycle items
listing_from_order [] order met orders = no_items
listing_from_order (x ∷ items) order met orders = listing_there (x ∷ items) x order met orders
