-- Where a search through an index ends.
use Rattle.std.proofs.Common.{◌≡◌, ◌<◌, ◌≤◌, ◌∙◌, ℕ, Bool, true, false, List, [], ◌∷◌, length, map, get_or, sym, ap, subst, ⊎_elim, arith}
use Rattle.std.proofs.lemmas.List.{length-map, get_or-map, get_or_default}
use Rattle.std.proofs.lemmas.Option.{slice_get-get_or}
use Rattle.std.specs.List.Sorted.{IsPartitionedBy, IsPartitionPoint}
use Rattle.keyed_table.proofs.Numbers.{compared}
use Rattle.keyed_table.specs.Orders.{IsOrderBut, IsDownward, IsStart, passes_at, is_one}

-- what a place leads to
pub passes_at-is : {A K : Type 0} (key : A → K) (test : K → Bool) (items : List A) (p : ℕ) (d : K) → p < length items
    → passes_at (λ x. test (key x)) items p ≡ test (get_or (map key items) p d)
passes_at-is key test [] p d lt = absurd (omega arith)
passes_at-is key test (x ∷ xs) p d lt =
    ap (is_one (λ y. test (key y))) (slice_get-get_or (x ∷ xs) p x lt) ∙ ap test (sym (get_or-map key (x ∷ xs) p x d lt))

module _ {A K : Type 0} (key : A → K) (below : K → K → Bool) (test : K → Bool) (items : List A) (places : List ℕ) (out : ℕ)
    (o : IsOrderBut below out (map key items) places) where
  pub leads : (i e : ℕ) (d : K) → i < length places
      → passes_at (λ x. test (key x)) items (get_or places i e) ≡ test (get_or (map key items) (get_or places i 0) d)
  leads i e d lt =
      ap (passes_at (λ x. test (key x)) items) (get_or_default places i e 0 lt)
      ∙ passes_at-is key test items (get_or places i 0) d (omega (arith, (o.within i lt).0, length-map items key))

  pub some : (i : ℕ) → i < length places → K
  some i lt = any items (omega (arith, (o.within i lt).0, length-map items key)) where
    any : (xs : List A) → 0 < length xs → K
    any [] l = absurd (omega arith)
    any (x ∷ xs) l = key x

  -- a downward test parts the places
  pub parted : IsDownward below test → IsPartitionedBy (passes_at (λ x. test (key x)) items) places
  parted down i j e le lt h = ⊎_elim
      (λ less.
      let d = some j lt in
      leads i e d (omega arith) ∙ down _ _ (o.rises i j d less lt) (sym (leads j e d lt) ∙ h))
      (⊎_elim (λ same. ap (λ n. passes_at (λ x. test (key x)) items (get_or places n e)) same ∙ h) (λ more. absurd (omega arith)))
      (compared i j)

  -- and there a partition point is a start
  pub started : (at : ℕ) → at ≤ length places
      → IsPartitionPoint (λ p. passes_at (λ x. test (key x)) items p ≡ true) (λ p. passes_at (λ x. test (key x)) items p ≡ false) places at
      → IsStart test (map key items) places at
  started at few point = record {
    few = few;
    before = λ i d lt. sym (leads i 0 d (omega arith)) ∙ point.0 i 0 (omega arith) lt;
    behind = λ i d le lt. sym (leads i 0 d lt) ∙ point.1 i 0 le lt;
  }

  -- what a search by a downward test answers
  pub searched : IsDownward below test → (entries : List ℕ) → entries ≡ places → (at : ℕ) → at ≤ length entries
      → (IsPartitionedBy (passes_at (λ x. test (key x)) items) entries
      → IsPartitionPoint (λ p. passes_at (λ x. test (key x)) items p ≡ true) (λ p. passes_at (λ x. test (key x)) items p ≡ false) entries at)
      → IsStart test (map key items) places at
  searched down entries is at few point = by (subst (λ es. (at ≤ length es) × (IsPartitionedBy (passes_at (λ x. test (key x)) items) es
      → IsPartitionPoint (λ p. passes_at (λ x. test (key x)) items p ≡ true) (λ p. passes_at (λ x. test (key x)) items p ≡ false) es at)) is (few, point)) where
        by : (at ≤ length places) × (IsPartitionedBy (passes_at (λ x. test (key x)) items) places
            → IsPartitionPoint (λ p. passes_at (λ x. test (key x)) items p ≡ true) (λ p. passes_at (λ x. test (key x)) items p ≡ false) places at)
            → IsStart test (map key items) places at
        by (l, h) = started at l (h (parted down))
