-- How a row is locked and unlocked.
use Rattle.std.specs.Prelude.{◌≡◌, ◌<◌, ◌+◌, ◌^◌, ℕ, List, Option, Some}
use Rattle.row_table.specs.declared.row.Row.{Row}
use Rattle.row_table.specs.Rows.{row_at}

-- the row of this number stands, and its key can count on
pub record IsLockable (rows : List Row) (n : ℕ) : Type 0 where
  pub row : Row
  pub its : row_at rows n ≡ Some row
  pub counts : row.key + 1 < 2 ^ 62

-- the row goes to this engine, or to none, and its key counts on
abbrev pub held : Option ℕ → Row → Row
held engine r = record r { engine = engine; key = r.key + 1 }
