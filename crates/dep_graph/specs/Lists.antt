-- Lists of numbers: rising ones, the least of a kind, and a list with one number more.
use Rattle.std.specs.Prelude.{◌≡◌, ◌<◌, ◌≤◌, ◌↔◌, ◌⊎◌, ℕ, List, Contains, AllPairs}

-- each number is below each later one
abbrev pub IsRising : List ℕ → Type 0
IsRising numbers = AllPairs (λ x y. x < y) numbers

-- the number is of the kind, and no lower one is
pub record IsLeast (Is : ℕ → Type 0) (number : ℕ) : Type 0 where
  pub is : Is number
  pub least : (other : ℕ) → Is other → number ≤ other

-- all numbers of the kind, each once, rising
pub record ListsAll (Is : ℕ → Type 0) (numbers : List ℕ) : Type 0 where
  pub rising : IsRising numbers
  pub each : (number : ℕ) → Contains numbers number ↔ Is number

-- the new list rises, and has the old one's numbers and this one
pub record PutsIn (old : List ℕ) (number : ℕ) (new : List ℕ) : Type 0 where
  pub rising : IsRising new
  pub each : (x : ℕ) → Contains new x ↔ (Contains old x ⊎ (x ≡ number))
