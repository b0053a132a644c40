-- What a job at Taken begins at, where its node's point stands.
use Rattle.std.proofs.Common.{subst, ℕ, ◌≡◌}
use Rattle.std.specs.Prelude.{List, Option, Some, slice_get}
use Rattle.traversal_graph.specs.declared.shape.Node.{Node}
use Rattle.traversal_graph.specs.declared.shape.Node.TheVariants.{U}
use Rattle.row_table.specs.Rows.{row_at}
use Rattle.row_table.specs.declared.row.Row.{Row}
use Rattle.sync_points.specs.declared.point.Point.{Point}
use Rattle.mail_table.specs.declared.mail.Job.{Job}
use Rattle.mail_table.specs.declared.mail.Stage.TheVariants.{Taken}
use Rattle.core_state.specs.State.{StateData}
use Rattle.core_state.specs.declared.graph.Graph.{Graph}
use Rattle.core_state.specs.declared.stack.Stack.{Stack}
use Rattle.step_relation.specs.Freshness.{Names, Serves, updates}
use Rattle.step_relation.specs.Nexts.{Works}
use Rattle.step_reads.specs.Work.{IsFreshOf}
use Rattle.check_steps.specs.AtUpdate.{AtUpdate}

module _ (s : StateData) (e : ℕ) (j : Job) (works : Works s e j Taken) (stack : Stack) (graph : Graph) (point : Point)
    (there : slice_get graph.points j.letter.node ≡ Some point) where
  at_serves : (name : List ℕ) (chosen : ℕ) (row : Option Row) → Names s j.letter stack graph (U name chosen)
      → row_at s.rows j.row ≡ row
      → Serves stack (U name chosen) row → AtUpdate s e j
  at_serves name chosen _ names found (updates _ _ item r asked kept) = record {
    stack = stack;
    graph = graph;
    name = name;
    chosen = chosen;
    item = item;
    row = r;
    point = point;
    works = works;
    names = names;
    asked = asked;
    found = found;
    kept = kept;
    its_point = there;
  }

  pub at_update : (node : Node) (row : Option Row) (name : List ℕ) (chosen : ℕ) → node ≡ U name chosen
      → IsFreshOf s j.letter j.row stack graph node row → AtUpdate s e j
  at_update node row name chosen is k =
      at_serves name chosen row (subst (λ (n : Node). Names s j.letter stack graph n) is k.names) k.found
      (subst (λ (n : Node). Serves stack n row) is k.serves)
