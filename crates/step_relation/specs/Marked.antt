-- The mark of a stack's newest traversal, by commands and marks alone.
use Rattle.std.specs.Prelude.{List, None, Option, Some, bytes_eq, fold, if◌then◌else◌, option_map, ℕ, ◌==◌}
use Rattle.heat_plan.specs.declared.phase.Status.{Status}
use Rattle.heat_plan.specs.declared.phase.Status.TheVariants.{Complete, Failed, InProgress}
use Rattle.core_state.specs.State.{stack_at}
use Rattle.core_state.specs.declared.entry.Cause.{Cause}
use Rattle.core_state.specs.declared.entry.Entry.{Entry}
use Rattle.core_state.specs.declared.entry.What.{What}
use Rattle.core_state.specs.declared.stack.Stack.{Stack}
use Rattle.step_relation.specs.Opening.{Opening}
use Rattle.core_state.specs.declared.entry.What.TheVariants as what

-- a traversal has no mark, is complete, or is failed; of one that failed before the opening the cause isn't told
pub data Mark : Type 0 where
  Unmarked : Mark
  Completed : Mark
  FailedFor : (cause : Option Cause) → Mark

-- a traversal and its mark
pub record Marked : Type 0 where
  pub trav : ℕ
  pub mark : Mark

-- a mark without a cause is that of a traversal that is complete
abbrev pub mark_by_cause : Option Cause → Mark
mark_by_cause None = Completed
mark_by_cause (Some cause) = FailedFor (Some cause)

-- the mark that a stack's status tells in the opening
abbrev pub mark_by_status : Status → Mark
mark_by_status Complete = Completed
mark_by_status InProgress = Unmarked
mark_by_status Failed = FailedFor None

-- a stack's newest traversal with its mark, as its status tells
abbrev pub marked_stack : Stack → Marked
marked_stack st = record { trav = st.trav; mark = mark_by_status st.status }

-- a mark counts where it is of the newest traversal
abbrev pub marked_again : ℕ → Option Cause → Marked → Marked
marked_again trav cause it = if it.trav == trav then record { trav = trav; mark = mark_by_cause cause } else it

-- a command begins a traversal without a mark, and a mark of the newest one counts
abbrev pub marked_by : List ℕ → Option Marked → What → Option Marked
marked_by s before (what.Command stack trav act plan rollback) = if bytes_eq stack s
    then Some (record { trav = trav; mark = Unmarked }) else before
marked_by s before (what.Mark stack trav act cause) = if bytes_eq stack s
    then option_map (marked_again trav cause) before else before
marked_by s before (what.Call token request given) = before
marked_by s before (what.Release token) = before
marked_by s before (what.Rows writes) = before
marked_by s before (what.Mail writes) = before
marked_by s before (what.Engine change) = before
marked_by s before (what.Show it stack) = before
marked_by s before (what.Note line code path) = before
marked_by s before (what.Ran idle turns) = before
marked_by s before (what.Turned engine lost) = before
marked_by s before (what.Preview stack forecast) = before
marked_by s before what.Closed = before

-- the newest traversal with its mark, by the opening and each entry in its turn; None where there is none
abbrev pub marked_of : Opening → List Entry → List ℕ → Option Marked
marked_of o h s = fold (λ (before : Option Marked) (e : Entry). marked_by s before e.what)
    (option_map marked_stack (stack_at o.state.stacks s)) h

-- None where there is no traversal
abbrev pub mark_of : Opening → List Entry → List ℕ → Option Mark
mark_of o h s = option_map (λ (it : Marked). it.mark) (marked_of o h s)
