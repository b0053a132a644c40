-- A list of one state.
use Rattle.std.proofs.Common.{◌≡◌, ◌↔◌, List, [], ◌∷◌, length, refl}
use Rattle.provider.specs.Table.{TokenState}
use Rattle.step_relation.specs.Tokens.{IsCertain}

pub certain : (states : List TokenState) → (length states ≡ 1) ↔ IsCertain states
certain [] = (λ is. cc, λ is. let none = is.alone in cc)
certain (s ∷ []) = (λ is. record { state = s; alone = refl }, λ is. refl)
certain (s ∷ t ∷ rest) = (λ is. cc, λ is. let none = is.alone in cc)
