-- The create fails and is rolled back: the stack's plan is then to have nothing.
use Rattle.std.specs.Prelude.{List, None, Some, [], false, true, ◌++◌, ◌∷◌, ◌≡◌}
use Rattle.heat_plan.specs.declared.item.Policy.{Policy}
use Rattle.heat_plan.specs.declared.item.Policy.TheVariants.{Delete}
use Rattle.heat_plan.specs.declared.phase.Act.TheVariants.{Rollback, Update}
use Rattle.heat_plan.specs.declared.phase.Status.TheVariants.{InProgress}
use Rattle.traversal_graph.specs.declared.shape.Node.TheVariants.{C}
use Rattle.traversal_graph.specs.declared.shape.TravGraph.{TravGraph}
use Rattle.core_state.specs.State.{StateData}
use Rattle.core_state.specs.declared.entry.Actor.TheVariants.{Engine}
use Rattle.core_state.specs.declared.entry.Entry.{Entry}
use Rattle.core_state.specs.declared.entry.MailWrite.TheVariants.{Sent}
use Rattle.core_state.specs.declared.graph.Graph.{Graph}
use Rattle.core_state.specs.declared.stack.Stack.{Stack}
use Rattle.step_relation.specs.Freshness.{plan_of}
use Rattle.step_relation.specs.Runs.{Run}
use Rattle.step_relation.specs.Could.{could_of}
use Rattle.step_relation.specs.Marked.{Unmarked, mark_of}
use Rattle.step_relation.specs.Newest.{newest}
use Rattle.step_relation.specs.Stored.{stored}
use Rattle.step_relation.specs.Headline.{Headline}
use Rattle.history_examples.specs.Created.{begun_under, until_begun, until_begun_under}
use Rattle.history_examples.specs.FailedFirst.{fail_tells, fail_tells_under, row_failed, row_failed_under}
use Rattle.history_examples.specs.Sentences.{Follows}
use Rattle.history_examples.specs.Setting.{letter, living, mail_writes, opening, plan, registries, says, stack_name}
use Rattle.history_examples.specs.Setting.{token}
use Rattle.history_examples.specs.Spoiled.{Spoiled}
use Rattle.history_examples.specs.Updates.{open_point}
use Rattle.core_state.specs.declared.entry.What.TheVariants as what

-- the second traversal: the failed row is to be cleaned up
abbrev pub stack_back : Stack
stack_back = record {
  name = stack_name;
  no = 1;
  trav = 2;
  act = Rollback;
  status = InProgress;
  plan = Some (plan_of None);
}

-- the clean-up node of the first row alone
abbrev pub one_row : TravGraph
one_row = record { nodes = C 1 ∷ []; edges = [] }

-- the graph with that node not done
abbrev pub graph_back : Graph
graph_back = record { stack = stack_name; graph = one_row; points = open_point 0 ∷ [] }

-- behind the failure and the rollback's command: a letter waits for that node
abbrev pub going_back_under : Policy → StateData
going_back_under policy = record (begun_under policy false) {
  stacks = stack_back ∷ [];
  graphs = graph_back ∷ [];
  rows = row_failed_under policy ∷ [];
  letters = letter 2 2 0 ∷ [];
  jobs = [];
  next = record { stack = 2; trav = 3; row = 2; engine = 3; letter = 3 };
}

-- with the policy of all examples but one
abbrev pub going_back : StateData
going_back = going_back_under Delete

-- what the rollback tells: the command, and that letter
abbrev pub rollback_tells : List Entry
rollback_tells =
    says (Engine 1) (what.Command stack_name 2 Rollback (Some (plan_of None)) false)
    ∷ mail_writes 1 (Sent (letter 2 2 0) ∷ [])
    ∷ []

-- the failure and its rollback are one step
abbrev pub history_under : Policy → List Entry
history_under policy = until_begun_under policy true ++ (fail_tells_under policy ++ rollback_tells)

-- with the policy of all examples but one
abbrev pub history : List Entry
history = history_under Delete

-- the newest traversal is the rollback, and what may be alive is named until it is gone
pub record IsRolledBack : Type 0 where
  pub run : Run registries opening.state going_back history
  pub headline : Headline registries opening history going_back
  pub traversal : newest opening history stack_name ≡ Some
      (record { trav = 2; act = Rollback; plan = Some (plan_of None) })
  pub mark : mark_of opening history stack_name ≡ Some Unmarked
  pub alive : could_of opening history (token 1) ≡ None ∷ Some (living 1 None) ∷ []
  pub rows : stored opening history ≡ row_failed ∷ []

-- spoiled: the engine commands an update in place of the rollback
abbrev pub updated_by_an_engine : Spoiled
updated_by_an_engine = record {
  before = until_begun true ++ fail_tells;
  entry = says (Engine 1) (what.Command stack_name 2 Update (Some (plan 2)) false);
  broken = Follows ∷ [];
}
