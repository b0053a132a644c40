-- Being the only one.
use Rattle.std.specs.Prelude.{◌≡◌}

-- P holds of exactly one value
abbrev pub HoldsOfOne : {A : Type 0} → (A → Type 0) → Type 0
HoldsOfOne {A} P = (x : A) × P x × ((y : A) → P y → y ≡ x)
