-- A whole turn: a move, and the rollback that its failure brings.
use Rattle.std.specs.Prelude.{Contains, List, None, Option, Some, true, ℕ, ◌++◌, ◌<◌, ◌^◌, ◌≡◌, ◌≤◌}
use Rattle.heat_plan.specs.declared.phase.Status.TheVariants.{Failed}
use Rattle.row_table.specs.declared.row.Row.{Row}
use Rattle.core_state.specs.Changes.{applied}
use Rattle.core_state.specs.State.{StateData, stack_at}
use Rattle.core_state.specs.declared.change.Change.{Change}
use Rattle.core_state.specs.declared.change.Change.TheVariants.{PutRow}
use Rattle.core_state.specs.declared.entry.Actor.TheVariants.{Engine}
use Rattle.core_state.specs.declared.entry.Entry.{Entry}
use Rattle.core_state.specs.declared.numbers.Numbers.{Numbers}
use Rattle.core_state.specs.declared.stack.Stack.{Stack}
use Rattle.step_relation.specs.Commands.{Lays, laid_changes, laid_entries}
use Rattle.step_relation.specs.Given.{Given, IsLike}
use Rattle.step_relation.specs.Moves.{Move}
use Rattle.step_relation.specs.Orders.{HasRoomFor, IsForward, past_of, plan_back, rollback_sets}
use Rattle.core_state.specs.declared.change.Change.TheVariants as change_to

-- the stack that a move has just marked as failed is to be rolled back
pub record IsDue (s : StateData) (st : Stack) : Type 0 where
  pub forward : IsForward st.act
  pub asked : (past_of s st.name).rollback ≡ true
  pub room : HasRoomFor s (plan_back s (record st { status = Failed })).items

-- nothing was marked as failed, or what was is not to be rolled back
pub data IsPlain (s : StateData) : Option Stack → Type 0 where
  unfailed : IsPlain s None
  stays : (st : Stack) → ¬ IsDue s st → IsPlain s (Some st)

-- the rollback of the stack that the engine marked as failed, from the state that the mark left
pub record FollowsFailure (s : StateData) (e : ℕ) (st : Stack) (cs : List Change) (es : List Entry) : Type 0 where
  pub failed : Stack
  pub is : stack_at s.stacks st.name ≡ Some failed
  pub its_name : failed.name ≡ st.name
  pub lays : Lays s failed.name (plan_back s failed).items
  pub changes : cs ≡ laid_changes s failed.name (plan_back s failed).items (rollback_sets s failed (Engine e)) lays
  pub entries : es ≡ laid_entries s failed.name (plan_back s failed).items (rollback_sets s failed (Engine e)) lays

-- an engine's turn: a move, and behind it the rollback of the failure that it marked, where one is due
pub data Turn (s : StateData) (e : ℕ) (given : Given) (cs : List Change) (es : List Entry) : Type 0 where
  plain : (failed : Option Stack) → Move s e given failed cs es → IsPlain (applied cs s) failed → Turn s e given cs es
  rolls : (st : Stack) (first last : List Change) (firsts lasts : List Entry) → Move s e given (Some st) first firsts
      → IsDue (applied first s) st → FollowsFailure (applied first s) e st last lasts
      → cs ≡ first ++ last → es ≡ firsts ++ lasts → Turn s e given cs es

-- a change that would draw a number at 2^62, or raise a key to it
pub data Overflows : Change → Type 0 where
  stack : (next : Numbers) → 2 ^ 62 < next.stack → Overflows (change_to.Numbers next)
  trav : (next : Numbers) → 2 ^ 62 < next.trav → Overflows (change_to.Numbers next)
  row : (next : Numbers) → 2 ^ 62 < next.row → Overflows (change_to.Numbers next)
  engine : (next : Numbers) → 2 ^ 62 < next.engine → Overflows (change_to.Numbers next)
  letter : (next : Numbers) → 2 ^ 62 < next.letter → Overflows (change_to.Numbers next)
  key : (r : Row) → 2 ^ 62 ≤ r.key → Overflows (PutRow r)

-- one of the changes passes the limit
pub record IsWorn (cs : List Change) : Type 0 where
  pub change : Change
  pub among : Contains cs change
  pub overflows : Overflows change

-- the engine's turn would be worn out under an answer that its request may have
pub record WearsOut (s : StateData) (e : ℕ) (given : Given) : Type 0 where
  pub other : Given
  pub like : IsLike given other
  pub changes : List Change
  pub entries : List Entry
  pub turn : Turn s e other changes entries
  pub worn : IsWorn changes
