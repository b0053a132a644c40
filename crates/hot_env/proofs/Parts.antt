-- Where a part of a text may still stand.
use Rattle.std.proofs.Common.{◌≡◌, ◌<◌, ◌+◌, ℕ, zero, suc, List, [], ◌∷◌, length, drop, ap, subst, arith}
use Rattle.std.proofs.Common.{Bool, false, ◌||◌, nat_eq}
use Rattle.std.specs.List.{starts_with}
use Rattle.hot_env.specs.Checks.{has_part}

passed : (part s : List ℕ) (i : ℕ) → i < length s → starts_with nat_eq (drop i s) part ≡ false
    → has_part part (drop i s) ≡ has_part part (drop (suc i) s)
passed part [] i l none = absurd (omega (arith, l))
passed part (b ∷ s) zero l none = ap (λ (t : Bool). t || has_part part s) none
passed part (b ∷ s) (suc i) l none = passed part s i (omega (arith, l)) none

-- not here, so behind
pub not-here : (part s : List ℕ) (i : ℕ) → i < length s → starts_with nat_eq (drop i s) part ≡ false
    → has_part part (drop i s) ≡ has_part part (drop (i + 1) s)
not-here part s i l none =
    let next : suc i ≡ i + 1 = omega arith in
    subst (λ (m : ℕ). has_part part (drop i s) ≡ has_part part (drop m s)) next (passed part s i l none)
