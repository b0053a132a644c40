-- Which row is a name's current one, and which rows are a stack's.
use Rattle.std.specs.Prelude.{◌≡◌, ◌<◌, ◌≤◌, ℕ, List, Option, None, Some, length, slice_index}
use Rattle.row_table.specs.declared.row.Row.{Row}
use Rattle.row_table.specs.Rows.{row_at}
use Rattle.row_table.specs.Chains.{IsCurrent}

-- a current row of this name in this stack has the number
pub record IsCurrentNo (rows : List Row) (stack name : List ℕ) (n : ℕ) : Type 0 where
  pub row : Row
  pub its : row_at rows n ≡ Some row
  pub at_stack : row.stack ≡ stack
  pub at_name : row.name ≡ name
  pub current : IsCurrent row

-- the name's current row, of several the greatest number, or none where there is none
abbrev pub IsCurrentOf : List Row → List ℕ → List ℕ → Option ℕ → Type 0
IsCurrentOf rows stack name None = (n : ℕ) → ¬ IsCurrentNo rows stack name n
IsCurrentOf rows stack name (Some n) = IsCurrentNo rows stack name n × ((m : ℕ) → IsCurrentNo rows stack name m → m ≤ n)

-- a row of this stack has the number
pub record IsOfStack (rows : List Row) (stack : List ℕ) (n : ℕ) : Type 0 where
  pub row : Row
  pub its : row_at rows n ≡ Some row
  pub at_stack : row.stack ≡ stack

-- the numbers of the stack's rows, rising
pub record AreOfStack (rows : List Row) (stack : List ℕ) (nos : List ℕ) : Type 0 where
  pub rises : (i j : ℕ) → i < j → j < length nos → slice_index nos i < slice_index nos j
  pub stands : (i : ℕ) → i < length nos → IsOfStack rows stack (slice_index nos i)
  pub whole : (n : ℕ) → IsOfStack rows stack n → (i : ℕ) × (i < length nos) × (slice_index nos i ≡ n)
