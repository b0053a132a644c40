-- The begin of an update node, before it is known what the node's inputs require.
use Rattle.std.specs.Prelude.{List, Some, slice_get, ℕ, ◌≡◌, ◌≢◌}
use Rattle.heat_plan.specs.declared.item.Item.{Item}
use Rattle.heat_plan.specs.declared.phase.Act.TheVariants.{Delete}
use Rattle.traversal_graph.specs.declared.shape.Node.TheVariants.{U}
use Rattle.traversal_graph.specs.declared.shape.Node.{Node}
use Rattle.row_table.specs.Rows.{row_at}
use Rattle.row_table.specs.declared.row.Row.{Row}
use Rattle.sync_points.specs.declared.point.Point.{Point}
use Rattle.mail_table.specs.Mails.{job_at}
use Rattle.mail_table.specs.declared.mail.Job.{Job}
use Rattle.mail_table.specs.declared.mail.Stage.TheVariants.{Taken}
use Rattle.core_state.specs.Reads.{item_at}
use Rattle.core_state.specs.State.{StateData}
use Rattle.core_state.specs.declared.graph.Graph.{Graph}
use Rattle.core_state.specs.declared.stack.Stack.{Stack}
use Rattle.step_relation.specs.Freshness.{Names, plan_of}
use Rattle.step_relation.specs.Nexts.{Works}

-- the engine's job, at Taken at an update node, with the node's point and the item and row that it is about
pub record AtUpdate (s : StateData) (e : ℕ) (job : Job) : Type 0 where
  pub stack : Stack
  pub graph : Graph
  pub name : List ℕ
  pub chosen : ℕ
  pub item : Item
  pub row : Row
  pub point : Point
  pub works : Works s e job Taken
  pub names : Names s job.letter stack graph (U name chosen)
  pub asked : item_at (plan_of stack.plan).items name ≡ Some item
  pub found : row_at s.rows job.row ≡ Some row
  pub kept : row.act ≢ Delete
  pub its_point : slice_get graph.points job.letter.node ≡ Some point

-- the node that the engine's job names has its point
abbrev pub HasPoint : StateData → ℕ → Type 0
HasPoint s e = (j : Job) (stack : Stack) (graph : Graph) (node : Node) → job_at s.jobs e ≡ Some j
    → Names s j.letter stack graph node → (p : Point) × (slice_get graph.points j.letter.node ≡ Some p)
