-- What a step on one stack leaves of the others.
use Rattle.std.specs.Prelude.{List, Option, Some, ℕ, ◌≡◌, ◌≢◌}
use Rattle.heat_plan.specs.declared.item.Item.{Item}
use Rattle.heat_plan.specs.declared.phase.Status.TheVariants.{InProgress}
use Rattle.step_relation.specs.Changes.{applied}
use Rattle.step_relation.specs.declared.Change.{Change}
use Rattle.step_relation.specs.declared.Entry.{Entry}
use Rattle.step_relation.specs.State.{StateData, graph_at, past_at, stack_at}
use Rattle.step_relation.specs.declared.Graph.{Graph}
use Rattle.step_relation.specs.declared.Past.{Past}
use Rattle.step_relation.specs.declared.Stack.{Stack}
use Rattle.traversal_graph.specs.declared.shape.Node.{Node}
use Rattle.step_relation.specs.Commands.{Lays, Sets, laid_changes}
use Rattle.step_relation.specs.Given.{Given}
use Rattle.step_relation.specs.Moves.{Move, ask_begun, ask_failed, begin_failed, begin_faulted, begin_in_place}
use Rattle.step_relation.specs.Moves.{begin_init, begin_overrun, begin_replaced, begin_resumed, begin_same}
use Rattle.step_relation.specs.Moves.{clean_deleted, clean_gone, clean_init, clean_kept, clean_retained, clean_stuck}
use Rattle.step_relation.specs.Moves.{finish, finish_last, finish_overrun, poll_failed, poll_gone, poll_ready}
use Rattle.step_relation.specs.Moves.{poll_waits, take_dropped, take_free, take_stolen, takeover_fresh}
use Rattle.step_relation.specs.Moves.{takeover_overrun}
use Rattle.step_relation.specs.Resends.{IsOpen}
use Rattle.step_relation.specs.Elsewhere.{Elsewhere}
use Rattle.step_relation.specs.GraphFits.{GraphFits, IsNode, graph_of}
use Rattle.step_relation.specs.Groups.{IsOrdered}
use Rattle.step_relation.specs.Linked.{Links}
use Rattle.step_relation.specs.MarkFits.{MarkFits, PastFits}
use Rattle.step_relation.specs.RowsFit.{RowsFit}
use Rattle.step_relation.specs.Sound.{Standing}
use Rattle.step_relation.specs.Stir.{Covered, IsCovered}

-- its graph, its rows and its mark fit as before
pub record StandsAsBefore (s t : StateData) (name : List ℕ) : Type 0 where
  pub graphs : (st : Stack) → stack_at t.stacks name ≡ Some st → GraphFits s st (graph_of s name)
      → GraphFits t st (graph_of t name)
  pub rows : (st : Stack) → stack_at t.stacks name ≡ Some st → RowsFit s st (graph_of s name)
      → RowsFit t st (graph_of t name)
  pub marks : (st : Stack) → stack_at t.stacks name ≡ Some st → MarkFits s st (graph_of s name)
      → MarkFits t st (graph_of t name)
  pub covered : (st : Stack) (g : Graph) (i : ℕ) (node : Node) → Covered s → stack_at t.stacks name ≡ Some st
      → st.status ≡ InProgress
      → graph_at t.graphs name ≡ Some g → IsNode g i node → IsOpen g i → IsCovered t st i node
  pub pasts : (p : Past) → past_at t.pasts name ≡ Some p → PastFits s p → PastFits t p

abbrev pub OthersStandAsBefore : Type 0
OthersStandAsBefore = (own : List ℕ) (s t : StateData) → Elsewhere own s t → Links s → (name : List ℕ) → name ≢ own
    → StandsAsBefore s t name

-- the stack that a move is on: that of its letter or its job
abbrev pub stack_of : (s : StateData) (e : ℕ) (given : Given) (failed : Option Stack) (cs : List Change)
    (es : List Entry)
    → Move s e given failed cs es → List ℕ
stack_of s e _ _ _ _ (take_dropped l _ _ _ _ _ _) = l.stack
stack_of s e _ _ _ _ (take_free k _ _ _ _ _) = k.letter.stack
stack_of s e _ _ _ _ (take_stolen k _ _ _ _ _ _ _ _) = k.letter.stack
stack_of s e _ _ _ _ (begin_overrun j _ _ _ _ _ _) = j.letter.stack
stack_of s e _ _ _ _ (begin_faulted k _ _ _ _ _ _ _ _) = k.job.letter.stack
stack_of s e _ _ _ _ (begin_init k _ _ _ _ _ _ _) = k.job.letter.stack
stack_of s e _ _ _ _ (begin_same k _ _ _ _ _ _ _ _ _) = k.job.letter.stack
stack_of s e _ _ _ _ (begin_in_place k _ _ _ _ _ _ _ _ _) = k.job.letter.stack
stack_of s e _ _ _ _ (begin_resumed k _ _ _ _ _ _ _ _ _) = k.job.letter.stack
stack_of s e _ _ _ _ (begin_failed k _ _ _ _ _ _ _ _ _) = k.job.letter.stack
stack_of s e _ _ _ _ (begin_replaced k _ _ _ _ _ _ _ _) = k.job.letter.stack
stack_of s e _ _ _ _ (clean_gone k _ _ _ _ _) = k.job.letter.stack
stack_of s e _ _ _ _ (clean_kept k _ _ _ _ _ _ _) = k.job.letter.stack
stack_of s e _ _ _ _ (clean_init k _ _ _ _ _ _ _ _) = k.job.letter.stack
stack_of s e _ _ _ _ (clean_stuck k _ _ _ _ _ _ _ _) = k.job.letter.stack
stack_of s e _ _ _ _ (clean_retained k _ _ _ _ _ _ _ _ _ _) = k.job.letter.stack
stack_of s e _ _ _ _ (clean_deleted k _ _ _ _ _ _ _ _ _ _) = k.job.letter.stack
stack_of s e _ _ _ _ (ask_begun k _ _ _ _ _ _) = k.job.letter.stack
stack_of s e _ _ _ _ (ask_failed k _ _ _ _ _ _ _ _ _ _ _ _) = k.job.letter.stack
stack_of s e _ _ _ _ (poll_waits k _ _ _ _ _ _) = k.job.letter.stack
stack_of s e _ _ _ _ (poll_ready k _ _ _ _ _ _) = k.job.letter.stack
stack_of s e _ _ _ _ (poll_gone k _ _ _ _ _) = k.job.letter.stack
stack_of s e _ _ _ _ (poll_failed k _ _ _ _ _ _ _ _ _ _ _ _) = k.job.letter.stack
stack_of s e _ _ _ _ (finish_overrun j _ _ _ _ _ _) = j.letter.stack
stack_of s e _ _ _ _ (finish k _ _ _ _ _) = k.job.letter.stack
stack_of s e _ _ _ _ (finish_last k _ _ _ _ _) = k.job.letter.stack
stack_of s e _ _ _ _ (takeover_overrun _ j _ _ _ _ _ _) = j.letter.stack
stack_of s e _ _ _ _ (takeover_fresh _ k _ _ _ _) = k.job.letter.stack

-- each move leaves all of the other stacks
abbrev pub MovesAreOnOne : Type 0
MovesAreOnOne = (s : StateData) (e : ℕ) (given : Given) (failed : Option Stack) (cs : List Change) (es : List Entry)
    → Standing s
    → (move : Move s e given failed cs es) → Elsewhere (stack_of s e given failed cs es move) s (applied cs s)

-- each command does
abbrev pub CommandsAreOnOne : Type 0
CommandsAreOnOne = (s : StateData) (name : List ℕ) (items : List Item) (it : Sets) (k : Lays s name items) → Standing s
    → IsOrdered s name items it → Elsewhere name s (applied (laid_changes s name items it k) s)
