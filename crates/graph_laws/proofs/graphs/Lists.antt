-- Places of lists: what a list has stands at a place, and of pairwise different keys each stands once.
use Rattle.std.proofs.Common.{◌≡◌, ◌≢◌, ◌<◌, ◌⊎◌, inl, inr, ℕ, zero, suc, List, Some, refl, sym, ap, ◌∙◌, arith}
use Rattle.std.specs.Prelude.{AllPairs, Contains, get_or, slice_get}
use Rattle.std.proofs.lemmas.List.{get_or_default}
use Rattle.std.proofs.lemmas.Option.{get_or_from_slice_get, slice_get-get_or, slice_get_within}
use Rattle.history_laws.proofs.tables.Rows.{same_or_not}

pub below_or_above : (i k : ℕ) → i ≢ k → (i < k) ⊎ (k < i)
below_or_above zero zero ne = absurd (ne refl)
below_or_above zero (suc k) ne = inl (omega arith)
below_or_above (suc i) zero ne = inr (omega arith)
below_or_above (suc i) (suc k) ne = elim (below_or_above i k (λ e. ne (ap suc e))) [
  | inl lt ↦ inl (omega (arith, lt))
  | inr gt ↦ inr (omega (arith, gt))
]

module _ {X : Type 0} where
  pub contains_at : (xs : List X) (i : ℕ) (x : X) → slice_get xs i ≡ Some x → Contains xs x
  contains_at xs i x at = (i, slice_get_within xs i x at, get_or_from_slice_get xs i x x at)

  pub contained : (xs : List X) (x : X) → Contains xs x → (i : ℕ) × (slice_get xs i ≡ Some x)
  contained xs x c = (c.0, slice_get-get_or xs c.0 x c.1 ∙ ap Some c.2)

  -- of members with pairwise different keys those of one key are one
  pub once_of : {K : Type 0} (key : X → K) (xs : List X) → AllPairs (λ (x y : X). key x ≢ key y) xs → (x y : X)
      → Contains xs x → Contains xs y
      → key x ≡ key y → x ≡ y
  once_of key xs apart x y c d same = elim (same_or_not c.0 d.0) [
    | inl is ↦ sym c.2 ∙ (ap (λ (n : ℕ). get_or xs n x) is ∙ (get_or_default xs d.0 x y d.1 ∙ d.2))
    | inr ne ↦ elim (below_or_above c.0 d.0 ne) [
      | inl lt ↦
          absurd (apart c.0 d.0 x lt d.1 (ap key c.2 ∙ (same ∙ ap key (sym (get_or_default xs d.0 x y d.1 ∙ d.2)))))
      | inr gt ↦
          absurd (apart d.0 c.0 x gt c.1 (ap key (get_or_default xs d.0 x y d.1 ∙ d.2) ∙ (sym same ∙ ap key (sym c.2))))
    ]
  ]
