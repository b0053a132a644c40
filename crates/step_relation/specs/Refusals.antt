-- What a command is refused for, in the order in which it is looked at.
use Rattle.std.specs.Prelude.{Bool, Contains, List, None, Some, [], length, ℕ, ◌<◌, ◌^◌, ◌≡◌, ◌≢◌, ◌≤◌}
use Rattle.heat_plan.specs.Plans.{PlanData}
use Rattle.heat_plan.specs.declared.phase.Act.TheVariants.{Delete}
use Rattle.heat_plan.specs.declared.phase.Status.TheVariants.{InProgress}
use Rattle.heat_plan.specs.declared.refusal.Refusal.{Refusal}
use Rattle.heat_plan.specs.declared.refusal.Refusal.TheVariants.{Deleting, NoEngine, NoStack, NotRunning, StackExists}
use Rattle.heat_plan.specs.declared.refusal.Refusal.TheVariants.{TooManyEngines, TooManyRows, TooManyStacks, Worn}
use Rattle.core_state.specs.State.{StateData, stack_at}
use Rattle.core_state.specs.declared.entry.Actor.TheVariants.{Main}
use Rattle.core_state.specs.declared.stack.Stack.{Stack}
use Rattle.step_relation.specs.Commands.{Lays, laid_changes}
use Rattle.step_relation.specs.Orders.{HasRoomFor, IsForward, create_sets, delete_sets, plan_back, rollback_sets}
use Rattle.step_relation.specs.Orders.{stack_limit, update_sets}
use Rattle.step_relation.specs.Steps.{engine_limit}
use Rattle.step_relation.specs.Turns.{IsWorn}

-- why a create is refused: the stack stands, there are too many stacks or rows, or a number is worn
pub data RefusesCreate (s : StateData) (name : List ℕ) (plan : PlanData) (rollback : Bool) : Refusal → Type 0 where
  exists : (st : Stack) → stack_at s.stacks name ≡ Some st → RefusesCreate s name plan rollback StackExists
  too_many_stacks : stack_at s.stacks name ≡ None → stack_limit ≤ length s.stacks
      → RefusesCreate s name plan rollback TooManyStacks
  too_many_rows : stack_at s.stacks name ≡ None → length s.stacks < stack_limit → ¬ HasRoomFor s plan.items
      → RefusesCreate s name plan rollback TooManyRows
  worn : (k : Lays s name plan.items) → stack_at s.stacks name ≡ None → length s.stacks < stack_limit
      → HasRoomFor s plan.items
      → IsWorn (laid_changes s name plan.items (create_sets s name plan rollback) k)
      → RefusesCreate s name plan rollback Worn

-- why an update is refused: no stack, one that is deleted, too many rows, or a number that is worn
pub data RefusesUpdate (s : StateData) (name : List ℕ) (plan : PlanData) (rollback : Bool) : Refusal → Type 0 where
  absent : stack_at s.stacks name ≡ None → RefusesUpdate s name plan rollback NoStack
  deleting : (st : Stack) → stack_at s.stacks name ≡ Some st → st.act ≡ Delete
      → RefusesUpdate s name plan rollback Deleting
  too_many_rows : (st : Stack) → stack_at s.stacks name ≡ Some st → st.act ≢ Delete → ¬ HasRoomFor s plan.items
      → RefusesUpdate s name plan rollback TooManyRows
  worn : (st : Stack) (k : Lays s st.name plan.items) → stack_at s.stacks name ≡ Some st → st.act ≢ Delete
      → HasRoomFor s plan.items
      → IsWorn (laid_changes s st.name plan.items (update_sets s st plan rollback) k)
      → RefusesUpdate s name plan rollback Worn

-- why a delete is refused: no stack, or a number that is worn
pub data RefusesDelete (s : StateData) (name : List ℕ) : Refusal → Type 0 where
  absent : stack_at s.stacks name ≡ None → RefusesDelete s name NoStack
  worn : (st : Stack) (k : Lays s st.name []) → stack_at s.stacks name ≡ Some st
      → IsWorn (laid_changes s st.name [] (delete_sets s st) k) → RefusesDelete s name Worn

-- the newest traversal is none that can be cancelled
pub data IsSettled (st : Stack) : Type 0 where
  other_act : ¬ IsForward st.act → IsSettled st
  marked : st.status ≢ InProgress → IsSettled st

-- why a cancel is refused: no stack, one that is deleted or isn't running, too many rows, a number worn
pub data RefusesCancel (s : StateData) (name : List ℕ) : Refusal → Type 0 where
  absent : stack_at s.stacks name ≡ None → RefusesCancel s name NoStack
  deleting : (st : Stack) → stack_at s.stacks name ≡ Some st → st.act ≡ Delete → RefusesCancel s name Deleting
  not_running : (st : Stack) → stack_at s.stacks name ≡ Some st → st.act ≢ Delete → IsSettled st
      → RefusesCancel s name NotRunning
  too_many_rows : (st : Stack) → stack_at s.stacks name ≡ Some st → st.act ≢ Delete → ¬ IsSettled st
      → ¬ HasRoomFor s (plan_back s st).items → RefusesCancel s name TooManyRows
  worn : (st : Stack) (k : Lays s st.name (plan_back s st).items) → stack_at s.stacks name ≡ Some st → st.act ≢ Delete
      → ¬ IsSettled st → HasRoomFor s (plan_back s st).items
      → IsWorn (laid_changes s st.name (plan_back s st).items (rollback_sets s st Main) k) → RefusesCancel s name Worn

-- an engine that is to be stopped isn't live
pub data RefusesStop (s : StateData) (e : ℕ) : Refusal → Type 0 where
  not_live : ¬ Contains s.live e → RefusesStop s e NoEngine

-- too many engines are live, or the number would be 2^62
pub data RefusesEnlist (s : StateData) : Refusal → Type 0 where
  too_many : engine_limit ≤ length s.live → RefusesEnlist s TooManyEngines
  worn : length s.live < engine_limit → 2 ^ 62 ≤ s.next.engine → RefusesEnlist s Worn
