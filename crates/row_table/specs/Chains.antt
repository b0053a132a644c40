-- Which row is its name's current one, and where a chain of replacements ends.
use Rattle.std.specs.Prelude.{◌≡◌, ◌≢◌, ◌<◌, ℕ, List, Some, None}
use Rattle.heat_plan.specs.declared.phase.Act.TheVariants.{Delete}
use Rattle.row_table.specs.declared.row.Row.{Row}
use Rattle.row_table.specs.Rows.{row_at}

-- the row in which a resource of this name stands now
pub record IsCurrent (r : Row) : Type 0 where
  pub kept : r.act ≢ Delete
  pub last : r.replaced_by ≡ None

-- no greater row stands that replaced this one
abbrev pub IsLast : List Row → Row → Type 0
IsLast rows r = (m : ℕ) (q : Row) → r.replaced_by ≡ Some m → r.no < m → ¬ row_at rows m ≡ Some q

-- following replaced_by from the row n ends at t
pub data Leads (rows : List Row) : ℕ → ℕ → Type 0 where
  ends : (n : ℕ) (r : Row) → row_at rows n ≡ Some r → IsLast rows r → Leads rows n n
  goes : (n m t : ℕ) (r : Row) → row_at rows n ≡ Some r → r.replaced_by ≡ Some m → n < m
      → Leads rows m t → Leads rows n t
