-- A stack is deleted over a half-made replacement: the new row goes before the one that it replaces.
use Rattle.std.specs.Prelude.{List, None, Some, [], false, ◌++◌, ◌∷◌, ◌≡◌}
use Rattle.heat_plan.specs.declared.phase.Act.TheVariants.{Delete}
use Rattle.heat_plan.specs.declared.phase.Status.TheVariants.{InProgress}
use Rattle.traversal_graph.specs.declared.shape.Node.TheVariants.{C}
use Rattle.traversal_graph.specs.declared.shape.TravGraph.{TravGraph}
use Rattle.core_state.specs.State.{StateData}
use Rattle.core_state.specs.declared.entry.Actor.TheVariants.{Main}
use Rattle.core_state.specs.declared.entry.Entry.{Entry}
use Rattle.core_state.specs.declared.entry.MailWrite.TheVariants.{Sent}
use Rattle.core_state.specs.declared.graph.Graph.{Graph}
use Rattle.core_state.specs.declared.stack.Stack.{Stack}
use Rattle.step_relation.specs.Runs.{Run}
use Rattle.step_relation.specs.Could.{could_of}
use Rattle.step_relation.specs.Marked.{Unmarked, mark_of}
use Rattle.step_relation.specs.Newest.{newest}
use Rattle.step_relation.specs.Stored.{stored}
use Rattle.step_relation.specs.Headline.{Headline}
use Rattle.history_examples.specs.FirstRow.{row_done}
use Rattle.history_examples.specs.Sentences.{CompleteFits, Completes}
use Rattle.history_examples.specs.Setting.{facts, letter, living, opening, plan, registries, says, stack_name, token}
use Rattle.history_examples.specs.Spoiled.{Spoiled}
use Rattle.history_examples.specs.Updates.{left, open_point, replace_tells, replaced, retake_tells, row_two}
use Rattle.history_examples.specs.Updates.{update_tells}
use Rattle.core_state.specs.declared.entry.What.TheVariants as what
use Rattle.history_examples.specs.Created as create

-- the third traversal: a clean-up node for each row, that of the replacement first
abbrev pub stack_three : Stack
stack_three = record { name = stack_name; no = 1; trav = 3; act = Delete; status = InProgress; plan = None }

-- both nodes, the first row's behind the second's
abbrev pub two_rows : TravGraph
two_rows = record { nodes = C 1 ∷ C 2 ∷ []; edges = (1, 0) ∷ [] }

-- the graph with no node done
abbrev pub graph_three : Graph
graph_three = record { stack = stack_name; graph = two_rows; points = open_point 0 ∷ open_point 1 ∷ [] }

-- an update's replacement is begun, and the cloud wasn't asked for it yet
abbrev pub halfway : StateData
halfway = replaced 2 (Some (plan 1)) row_done

-- behind the delete: a letter waits for the second row's node
abbrev pub deleting : StateData
deleting = record halfway {
  stacks = stack_three ∷ [];
  graphs = graph_three ∷ [];
  letters = letter 3 3 1 ∷ [];
  next = record { stack = 2; trav = 4; row = 3; engine = 3; letter = 4 };
}

-- what the delete tells: the command, and that letter
abbrev pub delete_tells : List Entry
delete_tells =
    says Main (what.Command stack_name 3 Delete None false)
    ∷ says Main (what.Mail (Sent (letter 3 3 1) ∷ []))
    ∷ []

-- the histories so far: a create, and the update's command
abbrev pub until_updated : List Entry
until_updated = create.history ++ update_tells 2

-- up to the take of the update's letter
abbrev pub until_retaken : List Entry
until_retaken = until_updated ++ retake_tells row_done

-- up to the replacement
abbrev pub until_halfway : List Entry
until_halfway = until_retaken ++ replace_tells 2 row_done

-- up to the delete
abbrev pub history : List Entry
history = until_halfway ++ delete_tells

-- both rows stand, the first one's resource is alive, and the delete has no mark
pub record IsDeletedHalfway : Type 0 where
  pub run : Run registries opening.state deleting history
  pub headline : Headline registries opening history deleting
  pub traversal : newest opening history stack_name ≡ Some (record { trav = 3; act = Delete; plan = None })
  pub mark : mark_of opening history stack_name ≡ Some Unmarked
  pub alive : could_of opening history (token 1) ≡ Some (living 1 (Some facts)) ∷ []
  pub rows : stored opening history ≡ left row_done ∷ row_two 2 ∷ []

-- spoiled: the delete is marked complete at once, though a resource is alive
abbrev pub marked_while_alive : Spoiled
marked_while_alive = record {
  before = history;
  entry = says Main (what.Mark stack_name 3 Delete None);
  broken = Completes ∷ CompleteFits ∷ [];
}
