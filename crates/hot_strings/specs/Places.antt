-- Where a text stands in another.
use Rattle.std.specs.Prelude.{◌≡◌, ◌≤◌, ℕ, List, ◌++◌, length}
pub use Rattle.longest_keys.specs.Texts.{Begins, IsPart, Lacks}

-- s is the front, then d where it stands furthest left, then the rest
pub record StandsFirst (d s front rest : List ℕ) : Type 0 where
  pub whole : s ≡ front ++ (d ++ rest)
  pub first : (before after : List ℕ) → s ≡ before ++ (d ++ after) → length front ≤ length before
