-- A stack is created: command, take, begin, ask, poll, finish. The main theorem's first example.
use Rattle.std.specs.Prelude.{Bool, List, None, Some, [], codes, false, true, ◌++◌, ◌∷◌, ◌≡◌}
use Rattle.heat_plan.specs.declared.item.Policy.{Policy}
use Rattle.heat_plan.specs.declared.item.Policy.TheVariants.{Delete}
use Rattle.heat_plan.specs.declared.phase.Act.TheVariants.{Create}
use Rattle.heat_plan.specs.declared.phase.Status.{Status}
use Rattle.heat_plan.specs.declared.phase.Status.TheVariants.{Complete, InProgress}
use Rattle.traversal_graph.specs.declared.shape.Node.TheVariants.{U}
use Rattle.traversal_graph.specs.declared.shape.TravGraph.{TravGraph}
use Rattle.sync_points.specs.declared.point.Point.{Point}
use Rattle.mail_table.specs.declared.mail.Stage.TheVariants.{Asking, Ending, Polling, Taken}
use Rattle.core_state.specs.State.{StateData}
use Rattle.core_state.specs.declared.entry.Actor.TheVariants.{Engine, Main}
use Rattle.core_state.specs.declared.entry.Entry.{Entry}
use Rattle.core_state.specs.declared.entry.MailWrite.TheVariants.{Dropped, Ended, Held, Sent}
use Rattle.core_state.specs.declared.entry.RowWrite.TheVariants.{Set}
use Rattle.core_state.specs.declared.graph.Graph.{Graph}
use Rattle.core_state.specs.declared.past.Past.{Past}
use Rattle.core_state.specs.declared.stack.Stack.{Stack}
use Rattle.step_relation.specs.Runs.{Run}
use Rattle.step_relation.specs.Could.{could_of}
use Rattle.step_relation.specs.Fits.{Fits}
use Rattle.step_relation.specs.Marked.{Completed, mark_of}
use Rattle.step_relation.specs.Stored.{stored}
use Rattle.step_relation.specs.Headline.{Headline}
use Rattle.history_examples.specs.FirstRow.{row_begun_under, row_done, row_made_under, row_ready, row_taken_under}
use Rattle.history_examples.specs.Setting.{facts, item_name, job, letter, living, mail_writes, opening, plan}
use Rattle.history_examples.specs.Setting.{plan_under}
use Rattle.history_examples.specs.Setting.{registries}
use Rattle.history_examples.specs.Setting.{row_writes, says, sized, stack_name, token}
use Rattle.heat_plan.specs.declared.calls.Answered.TheVariants as answer
use Rattle.heat_plan.specs.declared.calls.Request.TheVariants as request
use Rattle.core_state.specs.declared.entry.What.TheVariants as what

-- the stack's first traversal, and its graph of one node
abbrev pub stack_under : Policy → Status → Stack
stack_under policy status = record {
  name = stack_name;
  no = 1;
  trav = 1;
  act = Create;
  status = status;
  plan = Some (plan_under policy 1);
}

-- with the policy of all examples but one
abbrev pub stack : Status → Stack
stack = stack_under Delete

-- an update node alone, which has the first row
abbrev pub one_node : TravGraph
one_node = record { nodes = U item_name 1 ∷ []; edges = [] }

-- that node's point, done or not
abbrev pub point : Bool → Point
point done = record { stack = stack_name; node = 0; inputs = []; done = done }

-- the graph with that point
abbrev pub graph : Bool → Graph
graph done = record { stack = stack_name; graph = one_node; points = point done ∷ [] }

-- nothing to go back to; whether a failure is rolled back
abbrev pub past : Bool → Past
past rollback = record { stack = stack_name; rollback = rollback; back = None }

-- the states behind each step; a failure is rolled back, or isn't
abbrev pub commanded_under : Policy → Bool → StateData
commanded_under policy rollback = record {
  stacks = stack_under policy InProgress ∷ [];
  graphs = graph false ∷ [];
  pasts = past rollback ∷ [];
  rows = row_made_under policy ∷ [];
  letters = letter 1 1 0 ∷ [];
  jobs = [];
  live = 1 ∷ 2 ∷ [];
  released = [];
  next = record { stack = 2; trav = 2; row = 2; engine = 3; letter = 2 };
}

-- the letter is taken, and the row locked
abbrev pub taken_under : Policy → Bool → StateData
taken_under policy rollback = record (commanded_under policy rollback) {
  rows = row_taken_under policy ∷ [];
  letters = [];
  jobs = job 1 (letter 1 1 0) 1 Taken ∷ [];
}

-- the row is to be created
abbrev pub begun_under : Policy → Bool → StateData
begun_under policy rollback = record (taken_under policy rollback) {
  rows = row_begun_under policy ∷ [];
  jobs = job 1 (letter 1 1 0) 1 Asking ∷ [];
}

-- behind the command, with the policy of all examples but one
abbrev pub commanded : Bool → StateData
commanded = commanded_under Delete

-- behind the begin, with the same
abbrev pub begun : Bool → StateData
begun = begun_under Delete

-- the cloud was asked for the resource
abbrev pub asked : Bool → StateData
asked rollback = record (begun rollback) { jobs = job 1 (letter 1 1 0) 1 Polling ∷ [] }

-- the cloud said that it is ready
abbrev pub ready : Bool → StateData
ready rollback = record (asked rollback) { rows = row_ready ∷ []; jobs = job 1 (letter 1 1 0) 1 Ending ∷ [] }

-- the node is done, and the create has its mark
abbrev pub created : Bool → StateData
created rollback =
    record (ready rollback) { stacks = stack Complete ∷ []; graphs = graph true ∷ []; rows = row_done ∷ []; jobs = [] }

-- what each step tells
abbrev pub command_tells : Policy → Bool → List Entry
command_tells policy rollback =
    says Main (what.Command stack_name 1 Create (Some (plan_under policy 1)) rollback)
    ∷ says Main (what.Rows (Set (row_made_under policy) ∷ []))
    ∷ says Main (what.Mail (Sent (letter 1 1 0) ∷ []))
    ∷ []

-- the take: the row is locked, and the letter becomes a job
abbrev pub take_tells : Policy → List Entry
take_tells policy =
    row_writes 1 (Set (row_taken_under policy) ∷ [])
    ∷ mail_writes 1 (Dropped 1 ∷ Held (job 1 (letter 1 1 0) 1 Taken) ∷ [])
    ∷ []

-- the begin: the row is to be created
abbrev pub begin_tells : Policy → List Entry
begin_tells policy =
    row_writes 1 (Set (row_begun_under policy) ∷ []) ∷ mail_writes 1 (Held (job 1 (letter 1 1 0) 1 Asking) ∷ []) ∷ []

-- the ask: the cloud is to create the resource
abbrev pub ask_tells : List Entry
ask_tells =
    says (Engine 1) (what.Call (token 1) (request.Create (codes "Box") (sized 1)) answer.Begun)
    ∷ mail_writes 1 (Held (job 1 (letter 1 1 0) 1 Polling) ∷ [])
    ∷ []

-- the poll: it is ready
abbrev pub poll_tells : List Entry
poll_tells =
    says (Engine 1) (what.Call (token 1) request.Poll (answer.Ready facts))
    ∷ row_writes 1 (Set row_ready ∷ [])
    ∷ mail_writes 1 (Held (job 1 (letter 1 1 0) 1 Ending) ∷ [])
    ∷ []

-- the finish, and the mark behind it
abbrev pub finish_tells : List Entry
finish_tells =
    row_writes 1 (Set row_done ∷ [])
    ∷ mail_writes 1 (Ended 1 ∷ [])
    ∷ says (Engine 1) (what.Mark stack_name 1 Create None)
    ∷ []

-- the histories so far
abbrev pub until_taken : Policy → Bool → List Entry
until_taken policy rollback = command_tells policy rollback ++ take_tells policy

-- up to the begin
abbrev pub until_begun_under : Policy → Bool → List Entry
until_begun_under policy rollback = until_taken policy rollback ++ begin_tells policy

-- the same, with the policy of all examples but one
abbrev pub until_begun : Bool → List Entry
until_begun = until_begun_under Delete

-- up to the ask
abbrev pub until_asked : Bool → List Entry
until_asked rollback = until_begun rollback ++ ask_tells

-- up to the mark, where a failure isn't rolled back
abbrev pub history : List Entry
history = (until_asked false ++ poll_tells) ++ finish_tells

-- the run, and what it reads as: the traversal is complete, and what is alive is the one resource of the plan
pub record IsCreated : Type 0 where
  pub run : Run registries opening.state (created false) history
  pub headline : Headline registries opening history (created false)
  pub mark : mark_of opening history stack_name ≡ Some Completed
  pub fits : Fits opening history stack_name (plan 1)
  pub alive : could_of opening history (token 1) ≡ Some (living 1 (Some facts)) ∷ []
  pub rows : stored opening history ≡ row_done ∷ []
