-- The links of chains of replacements.
use Rattle.std.specs.Prelude.{◌≡◌, ◌<◌, ℕ, Option, Some}
use Rattle.row_table.specs.declared.row.Row.{Row}

-- the row was replaced by one of this number, which is greater
pub record IsNext (row : Option Row) (n : ℕ) : Type 0 where
  pub before : Row
  pub there : row ≡ Some before
  pub link : before.replaced_by ≡ Some n
  pub rises : before.no < n

abbrev pub HasNext : Option Row → Type 0
HasNext row = (n : ℕ) × IsNext row n
