-- An update of the stack over its one row, and the row's replacement: what follows the create in several examples.
use Rattle.std.specs.Prelude.{List, None, Option, Some, [], false, ℕ, ◌+◌, ◌∷◌}
use Rattle.heat_plan.specs.Plans.{PlanData}
use Rattle.heat_plan.specs.declared.phase.Act.TheVariants.{Create, Update}
use Rattle.heat_plan.specs.declared.phase.Status.{Status}
use Rattle.heat_plan.specs.declared.phase.Status.TheVariants.{InProgress}
use Rattle.traversal_graph.specs.declared.shape.Node.TheVariants.{C, U}
use Rattle.traversal_graph.specs.declared.shape.TravGraph.{TravGraph}
use Rattle.row_table.specs.declared.row.Row.{Row}
use Rattle.sync_points.specs.declared.point.Point.{Point}
use Rattle.mail_table.specs.declared.mail.Job.{Job}
use Rattle.mail_table.specs.declared.mail.Stage.TheVariants.{Asking, Taken}
use Rattle.core_state.specs.State.{StateData}
use Rattle.core_state.specs.declared.entry.Actor.TheVariants.{Main}
use Rattle.core_state.specs.declared.entry.Entry.{Entry}
use Rattle.core_state.specs.declared.entry.MailWrite.TheVariants.{Dropped, Held, Sent}
use Rattle.core_state.specs.declared.entry.RowWrite.TheVariants.{Set}
use Rattle.core_state.specs.declared.graph.Graph.{Graph}
use Rattle.core_state.specs.declared.stack.Stack.{Stack}
use Rattle.history_examples.specs.FirstRow.{row_made}
use Rattle.history_examples.specs.Setting.{job, letter, mail_writes, item_name, plan, row_writes, says, sized}
use Rattle.history_examples.specs.Setting.{stack_name}
use Rattle.core_state.specs.declared.entry.What.TheVariants as what

-- the second traversal: its update node, and behind it the clean-up node of the row that stood
abbrev pub stack_two : ℕ → Status → Stack
stack_two size status =
    record { name = stack_name; no = 1; trav = 2; act = Update; status = status; plan = Some (plan size) }

-- both nodes, the clean-up node behind the other
abbrev pub two_nodes : TravGraph
two_nodes = record { nodes = U item_name 1 ∷ C 1 ∷ []; edges = (0, 1) ∷ [] }

-- the point of a node that isn't done and has no input
abbrev pub open_point : ℕ → Point
open_point node = record { stack = stack_name; node = node; inputs = []; done = false }

-- the graph with neither node done
abbrev pub graph_two : Graph
graph_two = record { stack = stack_name; graph = two_nodes; points = open_point 0 ∷ open_point 1 ∷ [] }

-- behind the command: the row and the jobs are as they were, and a letter waits for the update node
abbrev pub updated : ℕ → Option PlanData → Row → List Job → StateData
updated size back r jobs = record {
  stacks = stack_two size InProgress ∷ [];
  graphs = graph_two ∷ [];
  pasts = record { stack = stack_name; rollback = false; back = back } ∷ [];
  rows = r ∷ [];
  letters = letter 2 2 0 ∷ [];
  jobs = jobs;
  live = 1 ∷ 2 ∷ [];
  released = [];
  next = record { stack = 2; trav = 3; row = 2; engine = 3; letter = 3 };
}

-- what the update tells: the command, and that letter
abbrev pub update_tells : ℕ → List Entry
update_tells size =
    says Main (what.Command stack_name 2 Update (Some (plan size)) false)
    ∷ says Main (what.Mail (Sent (letter 2 2 0) ∷ []))
    ∷ []

-- behind the take
abbrev pub again : Row → Row
again r = record r { engine = Some 1; key = r.key + 1 }

-- the letter is taken, and the row locked
abbrev pub retaken : ℕ → Option PlanData → Row → StateData
retaken size back r =
    record (updated size back r []) { rows = again r ∷ []; letters = []; jobs = job 1 (letter 2 2 0) 1 Taken ∷ [] }

-- what the take tells: the row, and the job in the letter's place
abbrev pub retake_tells : Row → List Entry
retake_tells r =
    row_writes 1 (Set (again r) ∷ [])
    ∷ mail_writes 1 (Dropped 2 ∷ Held (job 1 (letter 2 2 0) 1 Taken) ∷ [])
    ∷ []

-- the row that takes the place of the first
abbrev pub row_two : ℕ → Row
row_two size = record row_made {
  no = 2;
  act = Create;
  status = InProgress;
  trav = 2;
  props = sized size;
  replaces = Some 1;
  engine = Some 1;
  key = 1;
}

-- the first row then
abbrev pub left : Row → Row
left r = record r { replaced_by = Some 2; engine = None; key = r.key + 1 + 1 }

-- behind the replacement: the second row stands, and the job goes on with it
abbrev pub replaced : ℕ → Option PlanData → Row → StateData
replaced size back r = record (retaken size back r) {
  rows = left r ∷ row_two size ∷ [];
  jobs = job 1 (letter 2 2 0) 2 Asking ∷ [];
  next = record { stack = 2; trav = 3; row = 3; engine = 3; letter = 3 };
}

-- what the replacement tells: both rows, and then the job
abbrev pub replace_tells : ℕ → Row → List Entry
replace_tells size r =
    row_writes 1 (Set (row_two size) ∷ Set (left r) ∷ [])
    ∷ mail_writes 1 (Held (job 1 (letter 2 2 0) 2 Asking) ∷ [])
    ∷ []
