-- Two numbers compared.
use Rattle.std.proofs.Common.{◌≡◌, ◌<◌, ◌⊎◌, ℕ, Bool, true, false, ltb, ltb-true, ltb-false, refl, inl, inr, arith}

pub compared : (a b : ℕ) → (a < b) ⊎ ((a ≡ b) ⊎ (b < a))
compared a b = by (ltb a b) (ltb b a) refl refl where
  by : (s t : Bool) → ltb a b ≡ s → ltb b a ≡ t → (a < b) ⊎ ((a ≡ b) ⊎ (b < a))
  by true t e f = inl (ltb-true a b e)
  by false true e f = inr (inr (ltb-true b a f))
  by false false e f = inr (inl (omega (arith, ltb-false a b e, ltb-false b a f)))
