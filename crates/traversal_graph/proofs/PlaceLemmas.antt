-- The place of an item by its name, which a binary search finds.
use Rattle.std.proofs.Common.{◌≡◌, ◌∙◌, ℕ, ◌+◌, ◌<◌, ◌≤◌, true, false, List, [], ◌∷◌, length, get_or, refl, sym, ap, inl, inr, arith}
use Rattle.std.specs.Str.{bytes_eq}
use Rattle.std.specs.Ordering.{nat_cmp, ordering_index, is_lt, is_eq}
use Rattle.std.specs.Cmp.Lexicographic.{slice_cmp}
use Rattle.std.specs.List.Sorted.{IsNonDecreasingBy, IsPartitionPoint}
use Rattle.std.specs.declared.cmp.Ordering.TheVariants.{Less, Equal, Greater}
use Rattle.std.proofs.lemmas.Bool.{cases_lt}
use Rattle.std.proofs.lemmas.Cmp.{nat_list_cmp_total}
use Rattle.std.proofs.lemmas.List.Sums.{position_or_len_is}
use Rattle.std.proofs.lemmas.List.Sorted.{searchable_from_sorted}
use Rattle.std.proofs.lemmas.Map.Text.{is_eq-slice_cmp}
use Rattle.heat_value.proofs.Searches.{flipped, equal_by}
use Rattle.heat_plan.specs.Order.{Rising}
use Rattle.heat_plan.specs.Plans.{names_of}
use Rattle.heat_plan.specs.declared.item.Item.{Item}
use Rattle.heat_plan.proofs.OrderLemmas.{Less-in_order}
use Rattle.traversal_graph.specs.Candidates.{place_of}

pub place_is : (items : List Item) (name : List ℕ) (i : ℕ) (d : Item) → i ≤ length items
    → ((k : ℕ) (e : Item) → k < i → bytes_eq name (get_or items k e).name ≡ false)
    → (i < length items → bytes_eq name (get_or items i d).name ≡ true) → i ≡ place_of items name
place_is items name i d le before at =
    sym (position_or_len_is (λ (x : Item). bytes_eq name x.name) items i d le (λ k lt. before k d lt) at)

place_past : (items : List Item) (name : List ℕ)
    → ((k : ℕ) (e : Item) → k < length items → bytes_eq name (get_or items k e).name ≡ false)
    → length items ≡ place_of items name
place_past [] name none = refl
place_past (x ∷ items) name none =
    place_is (x ∷ items) name (length (x ∷ items)) x (omega arith) none (λ lt. absurd (omega arith))

-- the names' comparisons with a name rise
pub names_rise : (items : List Item) (name : List ℕ) → Rising (names_of items)
    → IsNonDecreasingBy (λ (x : Item). ordering_index (slice_cmp nat_cmp x.name name)) items
names_rise items name up = searchable_from_sorted nat_list_cmp_total (λ (x : Item). x.name) items name
    (λ i d a l. ap is_lt (flipped (get_or items i d).name (get_or items (i + 1) d).name Less (Less-in_order (λ (y : Item). y.name) items i (i + 1) d up (omega arith) (omega arith))))

-- an item of the name stands at its place
pub place_found : (items : List Item) (name : List ℕ) (i : ℕ) → Rising (names_of items) → i < length items
    → ((d : Item) → slice_cmp nat_cmp (get_or items i d).name name ≡ Equal) → i ≡ place_of items name
place_found [] name i up l here = absurd (omega arith)
place_found (x ∷ items) name i up l here =
    place_is (x ∷ items) name i x (omega arith) before (λ _. equal_by (get_or (x ∷ items) i x).name name Equal (here x))
  where
    before : (k : ℕ) (e : Item) → k < i → bytes_eq name (get_or (x ∷ items) k e).name ≡ false
    before k e a =
        let earlier : List ℕ = (get_or (x ∷ items) k e).name in
        let this : List ℕ = (get_or (x ∷ items) i e).name in
        sym (is_eq-slice_cmp name earlier)
        ∙ ap is_eq (sym (nat_list_cmp_total.congr this name earlier (here e)) ∙ flipped earlier this Less (Less-in_order (λ (y : Item). y.name) (x ∷ items) k i e up a l))

-- where none has the name, its place is past all
pub place_missed : (items : List Item) (name : List ℕ) (i : ℕ)
    → IsPartitionPoint (λ (x : Item). slice_cmp nat_cmp x.name name ≡ Less) (λ (x : Item). slice_cmp nat_cmp x.name name ≡ Greater) items i
    → length items ≡ place_of items name
place_missed items name i parts = place_past items name (λ k e lt. elim (cases_lt k i) [
  | inl below ↦ equal_by (get_or items k e).name name Less (parts.0 k e (omega arith) below)
  | inr above ↦ equal_by (get_or items k e).name name Greater (parts.1 k e above lt)
])
