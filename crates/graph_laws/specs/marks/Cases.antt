-- Single moves with their changes written out: behind each the marks of all stacks fit.
use Rattle.std.specs.Prelude.{List, Option, [], map, ℕ, ◌++◌, ◌∷◌, ◌≡◌}
use Rattle.heat_value.specs.declared.path.Step.{Step}
use Rattle.heat_plan.specs.declared.calls.Answered.{Answered}
use Rattle.heat_plan.specs.declared.calls.Request.{Request}
use Rattle.heat_plan.specs.declared.phase.Status.TheVariants.{InProgress}
use Rattle.traversal_graph.specs.declared.shape.Node.{Node}
use Rattle.mail_table.specs.declared.mail.Letter.{Letter}
use Rattle.mail_table.specs.declared.mail.Stage.TheVariants.{Asking}
use Rattle.core_state.specs.Changes.{applied}
use Rattle.core_state.specs.Reads.{IsDone}
use Rattle.core_state.specs.State.{StateData}
use Rattle.core_state.specs.declared.change.Change.TheVariants.{EndJob, PutRow, Send}
use Rattle.core_state.specs.declared.entry.Why.{Why}
use Rattle.core_state.specs.declared.stack.Stack.{Stack}
use Rattle.step_relation.specs.Asks.{Asks, Calls, Falls, Refuses}
use Rattle.step_relation.specs.Begins.{Begins, left_changes}
use Rattle.step_relation.specs.Finishes.{Finishes, Settles, finished_changes, graph_then}
use Rattle.step_relation.specs.Given.{Faulted}
use Rattle.step_relation.specs.Rows.{failed_row}
use Rattle.step_relation.specs.Runs.{IsTied, Judges}
use Rattle.step_relation.specs.Writes.{draw_letters, mark_complete, mark_failed}
use Rattle.step_relation.specs.GraphFits.{IsNode}
use Rattle.step_relation.specs.MarkFits.{MarksFit}
use Rattle.step_relation.specs.Sound.{Standing}

-- the last node of all, update nodes and clean-up nodes, is finished: the stack is marked complete
abbrev pub LastIsMarked : Type 0
LastIsMarked = (s : StateData) (e : ℕ) (k : Finishes s e) → Standing s
    → ((i : ℕ) (node : Node) → IsNode (graph_then s e k) i node → IsDone (graph_then s e k) i)
    → k.fresh.stack.status ≡ InProgress
    → MarksFit (applied (finished_changes s e k (mark_complete k.fresh.stack)) s)

-- another is finished: no mark
abbrev pub OtherIsUnmarked : Type 0
OtherIsUnmarked = (s : StateData) (e : ℕ) (k : Finishes s e) → Standing s → ¬ Settles s e k
    → MarksFit (applied (finished_changes s e k []) s)

-- a job fails: its stack is marked, if it has no mark
abbrev pub FailureIsMarked : Type 0
FailureIsMarked = (s : StateData) (e : ℕ) (k : Calls s e Asking) (asked : Request) (given : Answered) (reason : Why)
    (letters : List Letter) (failed : Option Stack) → Standing s → Asks k.row asked
    → Refuses k.row.act asked given reason
    → Falls s k.job letters failed
    → MarksFit (applied (draw_letters s.next letters
    (PutRow (failed_row k.row) ∷ EndJob e ∷ (map Send letters ++ mark_failed failed))) s)

-- an item can't be resolved: its stack is marked, if it has no mark
abbrev pub FaultIsMarked : Type 0
FaultIsMarked = (judges : Judges) (s : StateData) (e : ℕ) (k : Begins s e) (code : List ℕ) (path : List Step)
    (failed : Option Stack)
    → Standing s → Falls s k.job [] failed
    → IsTied judges s e (Faulted code path)
    → MarksFit (applied (left_changes e k.row ++ mark_failed failed) s)
