-- How many there are of a kind.
use Rattle.std.specs.Prelude.{Contains, List, [], length, ℕ, ◌∷◌, ◌↔◌, ◌≡◌}

-- none stands in the list twice
abbrev pub AreOnce : {A : Type 0} → List A → Type 0
AreOnce [] = Unit {0}
AreOnce (x ∷ xs) = (¬ Contains xs x) × AreOnce xs

-- so many are of the kind
pub record Counts {A : Type 0} (Is : A → Type 0) (n : ℕ) : Type 0 where
  pub all : List A
  pub once : AreOnce all
  pub each : (x : A) → Contains all x ↔ Is x
  pub count : length all ≡ n
