-- The begin of an update node, with what was found in the state.
use Rattle.std.specs.Prelude.{List, Some, slice_get, ℕ, ◌≡◌, ◌≢◌}
use Rattle.heat_plan.specs.declared.phase.Act.TheVariants.{Delete}
use Rattle.dep_graph.specs.Lists.{ListsAll}
use Rattle.traversal_graph.specs.declared.shape.Node.TheVariants.{U}
use Rattle.row_table.specs.Rows.{row_at}
use Rattle.mail_table.specs.declared.mail.Stage.TheVariants.{Taken}
use Rattle.core_state.specs.Reads.{item_at}
use Rattle.core_state.specs.State.{StateData}
use Rattle.core_state.specs.declared.graph.Graph.{Graph}
use Rattle.step_relation.specs.Begins.{Begins}
use Rattle.step_relation.specs.Freshness.{Names, plan_of}
use Rattle.step_relation.specs.Inputs.{IsRequired}
use Rattle.step_relation.specs.Nexts.{Works}
use Rattle.check_steps.specs.declared.begin_found.Found.{Found}

-- these are the parts of the begin of an update node
pub record IsFound (s : StateData) (e : ℕ) (it : Found) : Type 0 where
  pub graph : Graph
  pub name : List ℕ
  pub chosen : ℕ
  pub works : Works s e it.job.now Taken
  pub names : Names s it.job.now.letter it.stack.now graph (U name chosen)
  pub its_plan : it.stack.now.plan ≡ Some it.plan.now
  pub asked : item_at (plan_of it.stack.now.plan).items name ≡ Some it.item.now
  pub found : row_at s.rows it.job.now.row ≡ Some it.row.now
  pub kept : it.row.now.act ≢ Delete
  pub its_point : slice_get graph.points it.job.now.letter.node ≡ Some it.point.now
  pub requires_are : ListsAll (IsRequired it.point.now.inputs) it.required

-- the begin that they make
abbrev pub begin_of : (s : StateData) (e : ℕ) (it : Found) → IsFound s e it → Begins s e
begin_of s e it found = record {
  job = it.job.now;
  stack = it.stack.now;
  graph = found.graph;
  name = found.name;
  chosen = found.chosen;
  item = it.item.now;
  row = it.row.now;
  point = it.point.now;
  required = it.required;
  works = found.works;
  names = found.names;
  asked = found.asked;
  found = found.found;
  kept = found.kept;
  its_point = found.its_point;
  requires_are = found.requires_are;
}
