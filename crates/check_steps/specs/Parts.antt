-- What a begin at an update node reads of the state.
use Rattle.std.specs.Prelude.{List, Some, slice_get, ℕ, ◌≡◌, ◌≢◌}
use Rattle.heat_plan.specs.Plans.{PlanData}
use Rattle.heat_plan.specs.declared.item.Item.{Item}
use Rattle.heat_plan.specs.declared.phase.Act.TheVariants.{Delete}
use Rattle.traversal_graph.specs.declared.shape.Node.TheVariants.{U}
use Rattle.row_table.specs.Rows.{row_at}
use Rattle.row_table.specs.declared.row.Row.{Row}
use Rattle.sync_points.specs.declared.point.Point.{Point}
use Rattle.mail_table.specs.declared.mail.Job.{Job}
use Rattle.mail_table.specs.declared.mail.Stage.TheVariants.{Taken}
use Rattle.core_state.specs.Reads.{item_at}
use Rattle.core_state.specs.State.{StateData}
use Rattle.core_state.specs.declared.graph.Graph.{Graph}
use Rattle.step_relation.specs.Freshness.{Names, plan_of}
use Rattle.step_relation.specs.Nexts.{Works}
use Rattle.check_steps.specs.AtUpdate.{AtUpdate}
use Rattle.check_steps.specs.declared.looks.BeginWork.{BeginWork}
use Rattle.check_steps.specs.declared.begin_parts.Parts.{Parts}

-- these are the parts that the begin of the engine's job reads
pub record IsParts (s : StateData) (e : ℕ) (job : Job) (it : Parts) : Type 0 where
  pub graph : Graph
  pub name : List ℕ
  pub chosen : ℕ
  pub works : Works s e job Taken
  pub names : Names s job.letter it.stack.now graph (U name chosen)
  pub its_plan : it.stack.now.plan ≡ Some it.plan.now
  pub asked : item_at (plan_of it.stack.now.plan).items name ≡ Some it.item.now
  pub found : row_at s.rows job.row ≡ Some it.row.now
  pub kept : it.row.now.act ≢ Delete
  pub its_point : slice_get graph.points job.letter.node ≡ Some it.point.now

-- the engine's job begins at an update node, and reads these
pub record HasParts (s : StateData) (e : ℕ) (job : Job) (it : Parts) : Type 0 where
  pub at : AtUpdate s e job
  pub parts : IsParts s e job it

-- what it is prepared from: the plan, the item, what the node was given, and the row's number, properties and key
abbrev pub read_of : PlanData → Item → Point → Row → BeginWork
read_of plan item point row = record {
  plan = plan;
  item = item;
  inputs = point.inputs;
  row = row.no;
  props = row.props;
  key = row.key;
}

-- the same of parts that were read
abbrev pub parts_read : Parts → BeginWork
parts_read it = read_of it.plan.now it.item.now it.point.now it.row.now
