-- What the failure of a job at its row brings, with the rollback where one follows.
use Rattle.std.specs.Prelude.{List, Option, Some, ℕ, ◌++◌, ◌∷◌, ◌≡◌}
use Rattle.heat_plan.specs.declared.calls.Answered.{Answered}
use Rattle.heat_plan.specs.declared.calls.Request.{Request}
use Rattle.heat_plan.specs.declared.refusal.Refusal.{Refusal}
use Rattle.heat_plan.specs.declared.refusal.Refusal.TheVariants.{Memory, Worn}
use Rattle.row_table.specs.declared.row.Row.{Row}
use Rattle.mail_table.specs.declared.mail.Job.{Job}
use Rattle.mail_table.specs.declared.mail.Letter.{Letter}
use Rattle.core_state.specs.Changes.{applied}
use Rattle.core_state.specs.State.{StateData}
use Rattle.core_state.specs.declared.change.Change.{Change}
use Rattle.core_state.specs.declared.entry.Entry.{Entry}
use Rattle.core_state.specs.declared.stack.Stack.{Stack}
use Rattle.step_relation.specs.Asks.{Asks, Falls, failed_changes, failed_entries}
use Rattle.step_relation.specs.Turns.{FollowsFailure, IsDue, IsPlain, IsWorn}
use Rattle.step_relation.specs.Writes.{call_entry}
use Rattle.step_ends.specs.Answers.{IsReason}
use Rattle.step_ends.specs.declared.falling.Failure.{Failure}

-- the row failed, these letters were sent and this stack was marked; where that is due, the rollback followed
pub data IsEnded (s : StateData) (e : ℕ) (r : Row) (letters : List Letter) (failed : Option Stack)
    (why : Failure) (cs : List Change) (es : List Entry) : Type 0 where
  plain : IsPlain (applied (failed_changes s e r letters failed) s) failed
      → cs ≡ failed_changes s e r letters failed
      → es ≡ why.call ∷ failed_entries e r letters failed why.reason
      → IsEnded s e r letters failed why cs es
  rolls : (st : Stack) (last : List Change) (lasts : List Entry) → failed ≡ Some st
      → IsDue (applied (failed_changes s e r letters failed) s) st
      → FollowsFailure (applied (failed_changes s e r letters failed) s) e st last lasts
      → cs ≡ failed_changes s e r letters failed ++ last
      → es ≡ (why.call ∷ failed_entries e r letters failed why.reason) ++ lasts
      → IsEnded s e r letters failed why cs es

-- the letters and the mark are those that the job's failure brings
pub record IsFallen (s : StateData) (e : ℕ) (j : Job) (r : Row) (why : Failure) (cs : List Change)
    (es : List Entry) : Type 0 where
  pub letters : List Letter
  pub failed : Option Stack
  pub falls : Falls s j letters failed
  pub ended : IsEnded s e r letters failed why cs es

-- an answer to the row's ask tells the failure
pub record IsFailureBy (e : ℕ) (r : Row) (given : Answered) (why : Failure) : Type 0 where
  pub asked : Request
  pub asks : Asks r asked
  pub call : why.call ≡ call_entry e r asked given
  pub reason : IsReason r.act given why.reason

-- want of memory, or such changes would wear something out
pub data OrWorn (Makes : List Change → List Entry → Type 0) (refusal : Refusal) : Type 0 where
  memory : refusal ≡ Memory → OrWorn Makes refusal
  worn : refusal ≡ Worn → (cs : List Change) (es : List Entry) → Makes cs es → IsWorn cs → OrWorn Makes refusal
