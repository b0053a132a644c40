-- The state that a mark of a failure leaves, and what a command reads of the row that it wrote.
use Rattle.std.specs.Prelude.{List, None, Option, Some, [], ℕ, ◌∷◌, ◌≡◌}
use Rattle.heat_plan.specs.declared.phase.Status.TheVariants.{Failed}
use Rattle.heat_plan.specs.declared.refusal.Refusal.{Refusal}
use Rattle.heat_plan.specs.declared.refusal.Refusal.TheVariants.{Memory, Worn}
use Rattle.row_table.specs.Rows.{row_at}
use Rattle.row_table.specs.declared.row.Row.{Row}
use Rattle.core_state.specs.Changes.{applied}
use Rattle.core_state.specs.State.{StateData}
use Rattle.core_state.specs.declared.change.Change.{Change}
use Rattle.core_state.specs.declared.change.Change.TheVariants.{EndJob, PutRow, PutStack}
use Rattle.core_state.specs.declared.entry.Entry.{Entry}
use Rattle.core_state.specs.declared.made.Made.{Made}
use Rattle.core_state.specs.declared.stack.Stack.{Stack}
use Rattle.step_relation.specs.Turns.{FollowsFailure, IsDue, IsWorn}

-- the row is written, the engine's job ends, and the stack is marked as failed
abbrev pub marking : ℕ → Row → Stack → List Change
marking e q st = PutRow q ∷ EndJob e ∷ PutStack (record st { status = Failed }) ∷ []

-- the row as it is written, and the one that stood there: no command sees them apart
pub record IsRewritten (rows : List Row) (q : Row) : Type 0 where
  pub old : Row
  pub found : row_at rows q.no ≡ Some old
  pub stack : q.stack ≡ old.stack
  pub name : q.name ≡ old.name
  pub act : q.act ≡ old.act
  pub requires_ : q.requires_ ≡ old.requires_
  pub replaces : q.replaces ≡ old.replaces
  pub replaced_by : q.replaced_by ≡ old.replaced_by

-- the rollback that follows the mark
pub record RollsBehind (s : StateData) (e : ℕ) (q : Row) (st : Stack) (cs : List Change)
    (es : List Entry) : Type 0 where
  pub due : IsDue (applied (marking e q st) s) st
  pub follows : FollowsFailure (applied (marking e q st) s) e st cs es

-- behind the mark, whichever row was rewritten before it: nothing, or a rollback that wears nothing out
abbrev pub IsBehind : StateData → ℕ → Stack → Option Made → Type 0
IsBehind s e st None = (q : Row) → IsRewritten s.rows q → ¬ IsDue (applied (marking e q st) s) st
IsBehind s e st (Some made) = ((q : Row) → IsRewritten s.rows q → RollsBehind s e q st made.changes made.entries)
    × (¬ IsWorn made.changes)

-- the same of two, each behind the mark by itself
abbrev pub AreBehind : StateData → ℕ → Stack → Option (Made × Made) → Type 0
AreBehind s e st None = IsBehind s e st None
AreBehind s e st (Some both) = IsBehind s e st (Some both.0) × IsBehind s e st (Some both.1)

-- want of memory, or the rollback would wear something out
pub data IsBehindRefusal (s : StateData) (e : ℕ) (st : Stack) (r : Refusal) : Type 0 where
  memory : r ≡ Memory → IsBehindRefusal s e st r
  worn : r ≡ Worn → (cs : List Change) (es : List Entry) → ((q : Row) → IsRewritten s.rows q
      → RollsBehind s e q st cs es)
      → IsWorn cs → IsBehindRefusal s e st r
