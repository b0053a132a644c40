-- The row that a node is about.
use Rattle.std.specs.Prelude.{List, None, Some, ℕ, ◌≡◌, ◌≤◌}
use Rattle.traversal_graph.specs.declared.shape.Node.{Node}
use Rattle.traversal_graph.specs.declared.shape.Node.TheVariants.{C, U}
use Rattle.row_table.specs.Chains.{IsCurrent, Leads}
use Rattle.row_table.specs.Rows.{row_at}
use Rattle.row_table.specs.declared.row.Row.{Row}

-- the current row of a stack and name; of several the one with the greatest number
pub record IsCurrentOf (rows : List Row) (stack name : List ℕ) (r : Row) : Type 0 where
  pub found : row_at rows r.no ≡ Some r
  pub stack_is : r.stack ≡ stack
  pub name_is : r.name ≡ name
  pub current : IsCurrent r
  pub greatest : (m : ℕ) (q : Row) → row_at rows m ≡ Some q → q.stack ≡ stack → q.name ≡ name → IsCurrent q → m ≤ r.no

-- no row of the stack and name is current
abbrev pub HasNoCurrent : List Row → List ℕ → List ℕ → Type 0
HasNoCurrent rows stack name = (m : ℕ) (q : Row) → row_at rows m ≡ Some q → q.stack ≡ stack → q.name ≡ name
    → ¬ IsCurrent q

-- an update node's target ends its chosen row's chain, or is current if that row is gone; a clean-up node's is its row
pub data IsTarget (rows : List Row) (stack : List ℕ) : Node → ℕ → Type 0 where
  of_c : (n : ℕ) → IsTarget rows stack (C n) n
  of_u : (name : List ℕ) (n t : ℕ) → Leads rows n t → IsTarget rows stack (U name n) t
  renewed : (name : List ℕ) (n : ℕ) (r : Row) → row_at rows n ≡ None → IsCurrentOf rows stack name r
      → IsTarget rows stack (U name n) r.no
