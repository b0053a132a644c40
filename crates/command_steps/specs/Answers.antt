-- What each command answers, and why it is refused.
use Rattle.std.specs.Prelude.{Bool, List, None, Some, length, ℕ, ◌<◌, ◌≡◌, ◌≢◌, ◌⊎◌}
use Rattle.heat_plan.specs.Plans.{IsPlan, PlanData}
use Rattle.heat_plan.specs.declared.phase.Act.TheVariants.{Delete}
use Rattle.heat_plan.specs.declared.phase.Status.TheVariants.{InProgress}
use Rattle.heat_plan.specs.declared.refusal.Refusal.{Refusal}
use Rattle.heat_plan.specs.declared.refusal.Refusal.TheVariants.{Memory, Worn}
use Rattle.core_state.specs.State.{StateData, stack_at}
use Rattle.core_state.specs.declared.change.Change.{Change}
use Rattle.core_state.specs.declared.entry.Actor.TheVariants.{Main}
use Rattle.core_state.specs.declared.entry.Entry.{Entry}
use Rattle.core_state.specs.declared.stack.Stack.{Stack}
use Rattle.step_relation.specs.Commands.{Lays, Sets, laid_changes, laid_entries}
use Rattle.step_relation.specs.Orders.{HasRoomFor, IsForward, plan_back, stack_limit}
use Rattle.step_relation.specs.Orders.{create_sets, delete_sets, rollback_sets, update_sets}
use Rattle.step_relation.specs.Freshness.{plan_of}
use Rattle.step_relation.specs.Turns.{FollowsFailure, IsWorn}

-- the changes and entries of what is laid, none of which wears a number out
pub record IsLaying (s : StateData) (name : List ℕ) (it : Sets) (cs : List Change) (es : List Entry) : Type 0 where
  pub lays : Lays s name (plan_of it.plan).items
  pub changes : cs ≡ laid_changes s name (plan_of it.plan).items it lays
  pub entries : es ≡ laid_entries s name (plan_of it.plan).items it lays
  pub unworn : ¬ IsWorn cs

-- the numbers don't suffice for what is laid
pub record IsWornLaying (s : StateData) (name : List ℕ) (it : Sets) (r : Refusal) : Type 0 where
  pub is : r ≡ Worn
  pub lays : Lays s name (plan_of it.plan).items
  pub worn : IsWorn (laid_changes s name (plan_of it.plan).items it lays)

-- each command's answer is its case of Command
pub record Creates (s : StateData) (name : List ℕ) (plan : PlanData) (rollback : Bool) (cs : List Change)
    (es : List Entry) : Type 0 where
  pub laying : IsLaying s name (create_sets s name plan rollback) cs es
  pub planned : IsPlan plan.items plan.absent
  pub absent : stack_at s.stacks name ≡ None
  pub few : length s.stacks < stack_limit
  pub room : HasRoomFor s plan.items

pub record Updates (s : StateData) (name : List ℕ) (plan : PlanData) (rollback : Bool) (cs : List Change)
    (es : List Entry) : Type 0 where
  pub stack : Stack
  pub its_name : stack.name ≡ name
  pub found : stack_at s.stacks stack.name ≡ Some stack
  pub laying : IsLaying s stack.name (update_sets s stack plan rollback) cs es
  pub planned : IsPlan plan.items plan.absent
  pub kept : stack.act ≢ Delete
  pub room : HasRoomFor s plan.items

pub record Deletes (s : StateData) (name : List ℕ) (cs : List Change) (es : List Entry) : Type 0 where
  pub stack : Stack
  pub its_name : stack.name ≡ name
  pub found : stack_at s.stacks stack.name ≡ Some stack
  pub laying : IsLaying s stack.name (delete_sets s stack) cs es

pub record Cancels (s : StateData) (name : List ℕ) (cs : List Change) (es : List Entry) : Type 0 where
  pub stack : Stack
  pub its_name : stack.name ≡ name
  pub found : stack_at s.stacks stack.name ≡ Some stack
  pub laying : IsLaying s stack.name (rollback_sets s stack Main) cs es
  pub forward : IsForward stack.act
  pub running : stack.status ≡ InProgress
  pub room : HasRoomFor s (plan_back s stack).items

-- want of memory, or one of these refusals
abbrev pub OrMemory : (Refusal → Type 0) → Refusal → Type 0
OrMemory Refuses r = (r ≡ Memory) ⊎ Refuses r

-- what follows the failure of the stack's traversal would wear a number out
pub record WearsOutBehind (s : StateData) (e : ℕ) (st : Stack) (r : Refusal) : Type 0 where
  pub is : r ≡ Worn
  pub changes : List Change
  pub entries : List Entry
  pub follows : FollowsFailure s e st changes entries
  pub worn : IsWorn changes
