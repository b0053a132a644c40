-- Items listed so that each stands behind its needs: such a listing has no cycle of needs, and an order makes one.
use Rattle.std.proofs.Common.{◌≡◌, ℕ, ◌<◌, ◌≤◌, List, [], ◌∷◌, length, get_or, Some, Option, refl, sym, ap, subst, ◌∙◌, inl, inr, arith}
use Rattle.std.specs.Prelude.{Contains, slice_get}
use Rattle.std.specs.Option.{option_map_or}
use Rattle.std.specs.Ordering.{nat_cmp}
use Rattle.std.specs.Cmp.Lexicographic.{slice_cmp}
use Rattle.std.specs.declared.cmp.Ordering.TheVariants.{Less, Equal}
use Rattle.std.proofs.lemmas.Bool.{cases_order}
use Rattle.std.proofs.lemmas.List.{get_or_default}
use Rattle.std.proofs.lemmas.List.Elements.{All-contains}
use Rattle.std.proofs.lemmas.List.Sorted.{Contains-permutation, IsPermutation-sym}
use Rattle.std.proofs.lemmas.Option.{slice_get_within, slice_get-get_or, get_or_from_slice_get}
use Rattle.dep_graph.specs.Paths.{Leads, IsAcyclic}
use Rattle.dep_graph.proofs.PathLemmas.{leads_of, acyclic_from}
use Rattle.heat_plan.specs.Order.{Rising}
use Rattle.heat_plan.specs.Plans.{names_of, StandsBefore, IsListing}
use Rattle.heat_plan.specs.declared.item.Item.{Item}
use Rattle.heat_plan.proofs.OrderLemmas.{Less-in_order}
use Rattle.traversal_graph.specs.Candidates.{place_of}
use Rattle.traversal_graph.specs.Relations.{IsNeeded}
use Rattle.traversal_graph.proofs.NeedMembers.{same_name, place_there, place_least}

-- ---- edges that rise

rank_along : (E : ℕ → ℕ → Type 0) (rank : ℕ → ℕ) → ((x y : ℕ) → E x y → rank x < rank y)
    → (a : ℕ) (p : List ℕ) (b : ℕ) → Leads E a p b → rank a ≤ rank b
rank_along E rank up a [] b e = omega (arith, ap rank e)
rank_along E rank up a (x ∷ p) b (e, r) = omega (arith, up a x e, rank_along E rank up x p b r)

-- edges along which a rank rises have no cycle
pub acyclic_by_rank : (E : ℕ → ℕ → Type 0) (rank : ℕ → ℕ) → ((x y : ℕ) → E x y → rank x < rank y) → IsAcyclic E
acyclic_by_rank E rank up = acyclic_from E (λ a loop.
    let p = leads_of E loop.0 a loop.2 in
    absurd (omega (arith, up a loop.0 loop.1, rank_along E rank up loop.0 p.0 a p.1)))

-- ---- items by their names

not_less : (a b : List ℕ) → a ≡ b → slice_cmp nat_cmp a b ≡ Less → ⊥
not_less a b e less =
    let L : List ℕ → Type 0 = λ n. slice_cmp nat_cmp a n ≡ Less in
    let self : slice_cmp nat_cmp a a ≡ Less = subst L (sym e) less in
    let level : slice_cmp nat_cmp a a ≡ Equal = same_name a in
    cc

-- items in order have each name once
pub same_item : (items : List Item) (i j : Item) → Rising (names_of items) → Contains items i → Contains items j → i.name ≡ j.name → i ≡ j
same_item items i j up a b e = elim (cases_order a.0 b.0) [
  | inl same ↦ (let G : ℕ → Type 0 = λ n. get_or items n i ≡ i in
      let here : get_or items b.0 i ≡ i = subst G same a.2 in
      sym here ∙ get_or_default items b.0 i j b.1 ∙ b.2)
  | inr o ↦ elim o [
    | inl below ↦ (let less = Less-in_order (λ (x : Item). x.name) items a.0 b.0 i up below b.1 in
        absurd (not_less i.name j.name e (names a.0 b.0 less)))
    | inr above ↦ (let less = Less-in_order (λ (x : Item). x.name) items b.0 a.0 i up above a.1 in
        absurd (not_less j.name i.name (sym e) (names' b.0 a.0 less)))
  ]
]
  where
    at_j : get_or items b.0 i ≡ j
    at_j = get_or_default items b.0 i j b.1 ∙ b.2

    names : (m n : ℕ) → slice_cmp nat_cmp (get_or items a.0 i).name (get_or items b.0 i).name ≡ Less → slice_cmp nat_cmp i.name j.name ≡ Less
    names m n less =
        ap (λ (x : Item). slice_cmp nat_cmp x.name j.name) (sym a.2)
        ∙ ap (λ (x : Item). slice_cmp nat_cmp (get_or items a.0 i).name x.name) (sym at_j) ∙ less

    names' : (m n : ℕ) → slice_cmp nat_cmp (get_or items b.0 i).name (get_or items a.0 i).name ≡ Less → slice_cmp nat_cmp j.name i.name ≡ Less
    names' m n less =
        ap (λ (x : Item). slice_cmp nat_cmp x.name i.name) (sym at_j)
        ∙ ap (λ (x : Item). slice_cmp nat_cmp (get_or items b.0 i).name x.name) (sym a.2) ∙ less

-- ---- a listing has no cycle

-- the place of an item's name in a listing, and past all where there is no item
abbrev pub rank_in : List Item → List Item → ℕ → ℕ
rank_in items listed x = option_map_or (λ (i : Item). place_of listed i.name) (slice_get items x) (length listed)

rank_of : (items listed : List Item) (x : ℕ) (i : Item) → slice_get items x ≡ Some i → rank_in items listed x ≡ place_of listed i.name
rank_of items listed x i at = ap (λ (o : Option Item). option_map_or (λ (i : Item). place_of listed i.name) o (length listed)) at

-- in a listing the item that is needed comes first
pub ranks_rise : (items listed : List Item) → Rising (names_of items) → IsListing items listed
    → (x y : ℕ) → IsNeeded items x y → (rank_in items listed x < rank_in items listed y) × (rank_in items listed y < length listed)
ranks_rise items listed up list x y h =
    let listed_at = contained_at' listed h.needing (Contains-permutation items listed h.needing list.same (stands y h.needing h.needing_at)) in
    let p : ℕ = place_of listed h.needing.name in
    let least = place_least listed h.needing.name listed_at.0 h.needing listed_at.1 refl in
    let within : p < length listed = omega (arith, least, slice_get_within listed listed_at.0 h.needing listed_at.1) in
    let there = place_there listed h.needing.name within in
    let in_items : Contains items there.0 = Contains-permutation listed items there.0 (IsPermutation-sym items listed list.same) (in_list listed p there.0 there.1) in
    let same : there.0 ≡ h.needing = same_item items there.0 h.needing up in_items (stands y h.needing h.needing_at) there.2 in
    let N : Item → Type 0 = λ i. Contains i.needs h.needed.name in
    let before = All-contains (StandsBefore listed p) there.0.needs h.needed.name (list.behind p there.0 there.1) (subst N (sym same) h.needs) in
    let first = place_least listed h.needed.name before.place before.item before.found before.named in (
      omega (arith, rank_of items listed x h.needed h.needed_at, rank_of items listed y h.needing h.needing_at, first, before.earlier),
      omega (arith, rank_of items listed y h.needing h.needing_at, within),
    )
  where
    in_list : (xs : List Item) (k : ℕ) (i : Item) → slice_get xs k ≡ Some i → Contains xs i
    in_list xs k i at = (k, slice_get_within xs k i at, get_or_from_slice_get xs k i i at)

    stands : (k : ℕ) (i : Item) → slice_get items k ≡ Some i → Contains items i
    stands k i at = in_list items k i at

    contained_at' : (xs : List Item) (i : Item) → Contains xs i → (k : ℕ) × (slice_get xs k ≡ Some i)
    contained_at' xs i c = (c.0, slice_get-get_or xs c.0 i c.1 ∙ ap (λ (x : Item). Some x) c.2)
