-- Of a list by rising numbers, neighbours of one number tell whether what has one number is one thing.
use Rattle.std.proofs.Common.{◌≡◌, inl, inr, ◌<◌, ◌≤◌, ◌+◌, ◌-◌, ℕ, zero, suc, List, get_or, length, sym, ap, ◌∙◌, arith}
use Rattle.std.specs.List.{AllAdjacentBelow}
use Rattle.std.specs.List.Sorted.{IsNonDecreasingBy, IsPermutation}
use Rattle.std.proofs.lemmas.Bool.{cases_lt}
use Rattle.std.proofs.lemmas.List.{get_or_default}
use Rattle.std.proofs.lemmas.List.Elements.{Contains-get_or}
use Rattle.std.proofs.lemmas.List.Sorted.{Contains-permutation, IsPermutation-sym}
use Rattle.state_images.specs.Ties.{IsSingleBy}

module _ {A B : Type 0} (number : A → ℕ) (what : A → B) where
  -- two of one number are one thing
  abbrev pub Agree : A → A → Type 0
  Agree a b = number a ≡ number b → what a ≡ what b

  module _ (xs : List A) (rises : IsNonDecreasingBy number xs) (agree : AllAdjacentBelow Agree xs (length xs)) where
    far : (more i : ℕ) (d : A) → i + more < length xs → number (get_or xs i d) ≡ number (get_or xs (i + more) d)
        → what (get_or xs i d) ≡ what (get_or xs (i + more) d)
    far zero i d lt e = let same : i ≡ i + 0 = omega arith in ap (λ (k : ℕ). what (get_or xs k d)) same
    far (suc more) i d lt e =
        let next : i + suc more ≡ (i + more) + 1 = omega arith in
        let last : number (get_or xs (i + suc more) d) ≡ number (get_or xs ((i + more) + 1) d) = ap (λ (k : ℕ). number (get_or xs k d)) next in
        let up = rises i (i + more) d (omega arith) (omega (arith, lt)) in
        let on = rises (i + more) ((i + more) + 1) d (omega arith) (omega (arith, lt)) in
        let mid : number (get_or xs i d) ≡ number (get_or xs (i + more) d) = omega (arith, e, up, on, last) in
        let onto : number (get_or xs (i + more) d) ≡ number (get_or xs ((i + more) + 1) d) = omega (arith, e, up, on, last) in
        far more i d (omega (arith, lt)) mid ∙ (agree (i + more) d (omega (arith, lt)) onto ∙ ap (λ (k : ℕ). what (get_or xs k d)) (sym next))

    forth : (k m : ℕ) (a b : A) → k ≤ m → m < length xs → get_or xs k a ≡ a → get_or xs m b ≡ b → number a ≡ number b → what a ≡ what b
    forth k m a b le lt at_k at_m e =
        let is : k + (m - k) ≡ m = omega (arith, le) in
        let at_far : get_or xs (k + (m - k)) a ≡ b = ap (λ (i : ℕ). get_or xs i a) is ∙ (get_or_default xs m a b lt ∙ at_m) in
        sym (ap what at_k) ∙ (far (m - k) k a (omega (arith, lt, is)) (ap number at_k ∙ (e ∙ sym (ap number at_far))) ∙ ap what at_far)

    pub single : IsSingleBy number what xs
    single a b (k, lt_k, at_k) (m, lt_m, at_m) e = elim (cases_lt m k) [
      | inl below ↦ sym (forth m k b a (omega (arith, below)) lt_k at_m at_k (sym e))
      | inr le ↦ forth k m a b le lt_m at_k at_m e
    ]

  -- and neighbours of one number are one thing if all that has one number is
  pub adjacent : (xs : List A) → IsSingleBy number what xs → AllAdjacentBelow Agree xs (length xs)
  adjacent xs one k d lt e = one (get_or xs k d) (get_or xs (k + 1) d) (Contains-get_or xs k d (omega (arith, lt))) (Contains-get_or xs (k + 1) d lt) e

  -- in whatever order
  pub reordered : (xs ys : List A) → IsPermutation xs ys → IsSingleBy number what ys → IsSingleBy number what xs
  reordered xs ys p one a b in_a in_b e = one a b (Contains-permutation xs ys a p in_a) (Contains-permutation xs ys b p in_b) e

  pub ordered : (xs ys : List A) → IsPermutation xs ys → IsSingleBy number what xs → IsSingleBy number what ys
  ordered xs ys p one = reordered ys xs (IsPermutation-sym xs ys p) one
