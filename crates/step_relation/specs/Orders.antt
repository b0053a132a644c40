-- The commands: create, update, delete, and the rollback of a stack.
use Rattle.std.specs.Prelude.{Bool, List, None, Option, Some, [], false, length, ℕ, ◌+◌, ◌<◌, ◌≡◌, ◌≢◌, ◌≤◌}
use Rattle.heat_plan.specs.Plans.{IsPlan, PlanData}
use Rattle.heat_plan.specs.declared.item.Item.{Item}
use Rattle.heat_plan.specs.declared.phase.Act.{Act}
use Rattle.heat_plan.specs.declared.phase.Act.TheVariants.{Create, Delete, Init, Rollback, Update}
use Rattle.heat_plan.specs.declared.phase.Status.{Status}
use Rattle.heat_plan.specs.declared.phase.Status.TheVariants.{Complete, Failed, InProgress}
use Rattle.core_state.specs.State.{StateData, past_at, stack_at}
use Rattle.core_state.specs.declared.change.Change.{Change}
use Rattle.core_state.specs.declared.entry.Actor.{Actor}
use Rattle.core_state.specs.declared.entry.Actor.TheVariants.{Main}
use Rattle.core_state.specs.declared.entry.Entry.{Entry}
use Rattle.core_state.specs.declared.past.Past.{Past}
use Rattle.core_state.specs.declared.stack.Stack.{Stack}
use Rattle.step_relation.specs.Commands.{Lays, Sets, laid_changes, laid_entries}
use Rattle.step_relation.specs.Freshness.{plan_of}

-- a stack's past; without one it rolls nothing back, and would go back to nothing
abbrev pub past_or : List ℕ → Option Past → Past
past_or name (Some past) = past
past_or name None = record { stack = name; rollback = false; back = None }

-- the past of the stack of this name in the state
abbrev pub past_of : StateData → List ℕ → Past
past_of s name = past_or name (past_at s.pasts name)

-- the plan that a rollback would go back to, once a command comes: a plan that is complete, else the one before
abbrev pub back_after : Stack → Past → Option PlanData
back_after st past = by_status st.status st.act where
  by_status : Status → Act → Option PlanData
  by_status Complete Delete = past.back
  by_status Complete Init = st.plan
  by_status Complete Create = st.plan
  by_status Complete Update = st.plan
  by_status Complete Rollback = st.plan
  by_status InProgress act = past.back
  by_status Failed act = past.back

-- a new stack with this plan, and nothing to go back to
abbrev pub create_sets : StateData → List ℕ → PlanData → Bool → Sets
create_sets s name plan rollback = record {
  actor = Main;
  no_ = s.next.stack;
  act = Create;
  plan = Some plan;
  past = record { stack = name; rollback = rollback; back = None };
  stacks = 1;
}

-- the stack with another plan; it may go back to the plan that it had last when complete
abbrev pub update_sets : StateData → Stack → PlanData → Bool → Sets
update_sets s st plan rollback = record {
  actor = Main;
  no_ = st.no;
  act = Update;
  plan = Some plan;
  past = record { stack = st.name; rollback = rollback; back = back_after st (past_of s st.name) };
  stacks = 0;
}

-- the stack without a plan, and no rollback of a failure
abbrev pub delete_sets : StateData → Stack → Sets
delete_sets s st = record {
  actor = Main;
  no_ = st.no;
  act = Delete;
  plan = None;
  past = record { stack = st.name; rollback = false; back = (past_of s st.name).back };
  stacks = 0;
}

-- the plan that a rollback has
abbrev pub plan_back : StateData → Stack → PlanData
plan_back s st = plan_of (back_after st (past_of s st.name))

-- the stack with the plan that it goes back to, and no rollback of a failure
abbrev pub rollback_sets : StateData → Stack → Actor → Sets
rollback_sets s st actor = record {
  actor = actor;
  no_ = st.no;
  act = Rollback;
  plan = Some (plan_back s st);
  past = record { stack = st.name; rollback = false; back = (past_of s st.name).back };
  stacks = 0;
}

-- the limits of a command
abbrev pub stack_limit : ℕ
stack_limit = 256

-- how many rows there may be, those of every stack together
abbrev pub row_limit : ℕ
row_limit = 4000

-- with a row more for each item the table stays within the limit
abbrev pub HasRoomFor : StateData → List Item → Type 0
HasRoomFor s items = length s.rows + length items ≤ row_limit

-- a traversal that a rollback may follow
pub data IsForward : Act → Type 0 where
  of_create : IsForward Create
  of_update : IsForward Update

-- a command of a line, its changes and its entries
pub data Command (s : StateData) (cs : List Change) (es : List Entry) : Type 0 where
  create : (name : List ℕ) (plan : PlanData) (rollback : Bool) (k : Lays s name plan.items)
      → IsPlan plan.items plan.absent → stack_at s.stacks name ≡ None → length s.stacks < stack_limit
      → HasRoomFor s plan.items
      → cs ≡ laid_changes s name plan.items (create_sets s name plan rollback) k
      → es ≡ laid_entries s name plan.items (create_sets s name plan rollback) k
      → Command s cs es
  update : (st : Stack) (plan : PlanData) (rollback : Bool) (k : Lays s st.name plan.items)
      → IsPlan plan.items plan.absent → stack_at s.stacks st.name ≡ Some st → st.act ≢ Delete → HasRoomFor s plan.items
      → cs ≡ laid_changes s st.name plan.items (update_sets s st plan rollback) k
      → es ≡ laid_entries s st.name plan.items (update_sets s st plan rollback) k
      → Command s cs es
  delete : (st : Stack) (k : Lays s st.name []) → stack_at s.stacks st.name ≡ Some st
      → cs ≡ laid_changes s st.name [] (delete_sets s st) k
      → es ≡ laid_entries s st.name [] (delete_sets s st) k
      → Command s cs es
  cancel : (st : Stack) (k : Lays s st.name (plan_back s st).items) → stack_at s.stacks st.name ≡ Some st
      → IsForward st.act → st.status ≡ InProgress → HasRoomFor s (plan_back s st).items
      → cs ≡ laid_changes s st.name (plan_back s st).items (rollback_sets s st Main) k
      → es ≡ laid_entries s st.name (plan_back s st).items (rollback_sets s st Main) k
      → Command s cs es
