-- Lists with room for more.
use Rattle.std.specs.Prelude.{ℕ, List}

-- the records, and how many more fit with no memory wanted
pub record Roomy (A : Type 0) : Type 0 where
  pub items : List A
  pub spare : ℕ
