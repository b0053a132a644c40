-- The rows whose chains end at a row.
use Rattle.std.specs.Prelude.{Contains, List, Some, ℕ, ◌<◌, ◌↔◌, ◌≡◌}
use Rattle.row_table.specs.Chains.{IsLast, Leads}
use Rattle.row_table.specs.declared.row.Row.{Row}

-- these are the numbers of those rows
abbrev pub AreLeading : List Row → ℕ → List ℕ → Type 0
AreLeading rows end leading = (n : ℕ) → Contains leading n ↔ Leads rows n end

-- the row's chain goes on to one of these, or it is the last and has the number itself
pub data LeadsNext (rows : List Row) (leading : List ℕ) (r : Row) (end : ℕ) : Type 0 where
  goes_on : (m : ℕ) → r.replaced_by ≡ Some m → r.no < m → Contains leading m → LeadsNext rows leading r end
  stays : r.no ≡ end → IsLast rows r → LeadsNext rows leading r end
