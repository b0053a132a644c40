-- What is known of tables, targets and the frame.
use Rattle.std.specs.Prelude.{List, ℕ, ◌≡◌}
use Rattle.traversal_graph.specs.declared.shape.Node.{Node}
use Rattle.row_table.specs.declared.row.Row.{Row}
use Rattle.step_relation.specs.Targets.{IsTarget}

-- a node has at most one target
abbrev pub TargetIsOne : Type 0
TargetIsOne = (rows : List Row) (stack : List ℕ) (node : Node) (t u : ℕ) → IsTarget rows stack node t
    → IsTarget rows stack node u → t ≡ u
