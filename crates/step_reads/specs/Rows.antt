-- What is found of rows.
use Rattle.std.specs.Prelude.{List, Some, ℕ, ◌<◌, ◌^◌, ◌≡◌}
use Rattle.traversal_graph.specs.declared.shape.Node.{Node}
use Rattle.row_table.specs.Rows.{row_at}
use Rattle.row_table.specs.declared.row.Row.{Row}
use Rattle.step_relation.specs.Targets.{IsTarget}

-- the node has no target
abbrev pub HasNoTarget : List Row → List ℕ → Node → Type 0
HasNoTarget rows stack node = (t : ℕ) → ¬ IsTarget rows stack node t

-- the row q stands, has a greater number and replaced r
pub record IsBehind (rows : List Row) (r q : Row) : Type 0 where
  pub link : r.replaced_by ≡ Some q.no
  pub rises : r.no < q.no
  pub below : q.no < 2 ^ 62
  pub found : row_at rows q.no ≡ Some q
