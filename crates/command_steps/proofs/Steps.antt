-- What each command answers is a case of Command, and a worn layout one of its refusals.
use Rattle.std.proofs.Common.{◌≡◌, ◌≢◌, ◌<◌, inl, inr, cond, refl, sym, ap, ◌∙◌, subst, Bool, true, false, ℕ, List, [], ◌∷◌, None, Some, length}
use Rattle.std.specs.Str.{bytes_eq}
use Rattle.std.proofs.lemmas.Slice.Eq.{bytes_eq-Decides}
use Rattle.heat_plan.specs.Plans.{IsPlan, PlanData}
use Rattle.heat_plan.specs.Tables.{at}
use Rattle.heat_plan.specs.declared.phase.Act.TheVariants.{Delete}
use Rattle.heat_plan.specs.declared.phase.Status.TheVariants.{InProgress}
use Rattle.heat_plan.specs.declared.refusal.Refusal.{Refusal}
use Rattle.core_state.specs.State.{StateData, stack_at, stack_key}
use Rattle.core_state.specs.declared.change.Change.{Change}
use Rattle.core_state.specs.declared.entry.Actor.TheVariants.{Engine, Main}
use Rattle.core_state.specs.declared.entry.Entry.{Entry}
use Rattle.core_state.specs.declared.stack.Stack.{Stack}
use Rattle.step_relation.specs.Orders.{Command, HasRoomFor, IsForward, create, create_sets, delete_sets, plan_back, rollback_sets, stack_limit, update_sets}
use Rattle.step_relation.specs.Refusals.{IsSettled, RefusesCancel, RefusesCreate, RefusesDelete, RefusesUpdate, marked, other_act}
use Rattle.step_relation.specs.Turns.{FollowsFailure}
use Rattle.command_steps.specs.Answers.{Cancels, Creates, Deletes, IsLaying, IsWornLaying, OrMemory, Updates, WearsOutBehind}
use Rattle.step_relation.specs.Orders as orders
use Rattle.step_relation.specs.Refusals as refusals

-- a stack stands under its name
pub stack-name : (stacks : List Stack) (name : List ℕ) (st : Stack) → stack_at stacks name ≡ Some st → st.name ≡ name
unfolding at
stack-name [] name st h = cc
stack-name (x ∷ xs) name st h = by (bytes_eq x.name name) refl h (stack-name xs name st) where
  by : (b : Bool) → bytes_eq x.name name ≡ b → cond b (Some x) (stack_at xs name) ≡ Some st
      → (stack_at xs name ≡ Some st → st.name ≡ name) → st.name ≡ name
  by true is e behind = let same : x ≡ st = cc in sym (ap stack_key same) ∙ (bytes_eq-Decides x.name name).0 is
  by false is e behind = behind e

pub stack_self : (stacks : List Stack) (name : List ℕ) (st : Stack) → stack_at stacks name ≡ Some st
    → stack_at stacks st.name ≡ Some st
stack_self stacks name st h = subst (λ (n : List ℕ). stack_at stacks n ≡ Some st) (sym (stack-name stacks name st h)) h

module _ (s : StateData) (cs : List Change) (es : List Entry) where
  pub created : (name : List ℕ) (plan : PlanData) (rollback : Bool) → Creates s name plan rollback cs es
      → Command s cs es
  created name plan rollback k =
      create name plan rollback k.laying.lays k.planned k.absent k.few k.room k.laying.changes k.laying.entries

  pub updated : (name : List ℕ) (plan : PlanData) (rollback : Bool) → Updates s name plan rollback cs es
      → Command s cs es
  updated name plan rollback k =
      orders.update k.stack plan rollback k.laying.lays k.planned k.found k.kept k.room k.laying.changes
      k.laying.entries

  pub deleted : (name : List ℕ) → Deletes s name cs es → Command s cs es
  deleted name k = orders.delete k.stack k.laying.lays k.found k.laying.changes k.laying.entries

  pub cancelled : (name : List ℕ) → Cancels s name cs es → Command s cs es
  cancelled name k =
      orders.cancel k.stack k.laying.lays k.found k.forward k.running k.room k.laying.changes k.laying.entries

  -- a stack that is found under a name, and what is laid for it
  module _ (name : List ℕ) (st : Stack) (found : stack_at s.stacks name ≡ Some st) where
    pub updates : (plan : PlanData) (rollback : Bool) → IsPlan plan.items plan.absent → st.act ≢ Delete
        → HasRoomFor s plan.items
        → IsLaying s st.name (update_sets s st plan rollback) cs es → Updates s name plan rollback cs es
    updates plan rollback planned kept room laying = record {
      stack = st;
      its_name = stack-name s.stacks name st found;
      found = stack_self s.stacks name st found;
      laying = laying;
      planned = planned;
      kept = kept;
      room = room;
    }

    pub deletes : IsLaying s st.name (delete_sets s st) cs es → Deletes s name cs es
    deletes laying = record {
      stack = st;
      its_name = stack-name s.stacks name st found;
      found = stack_self s.stacks name st found;
      laying = laying;
    }

    pub cancels : IsForward st.act → st.status ≡ InProgress → HasRoomFor s (plan_back s st).items
        → IsLaying s st.name (rollback_sets s st Main) cs es → Cancels s name cs es
    cancels forward running room laying = record {
      stack = st;
      its_name = stack-name s.stacks name st found;
      found = stack_self s.stacks name st found;
      laying = laying;
      forward = forward;
      running = running;
      room = room;
    }

  -- the rollback of a stack as it is found under another's name
  pub follows : (e : ℕ) (st failed : Stack) → stack_at s.stacks st.name ≡ Some failed
      → IsLaying s failed.name (rollback_sets s failed (Engine e)) cs es → FollowsFailure s e st cs es
  follows e st failed found laying = record {
    failed = failed;
    is = found;
    its_name = stack-name s.stacks st.name failed found;
    lays = laying.lays;
    changes = laying.changes;
    entries = laying.entries;
  }

pub worn_create : (s : StateData) (name : List ℕ) (plan : PlanData) (rollback : Bool) → stack_at s.stacks name ≡ None
    → length s.stacks < stack_limit → HasRoomFor s plan.items
    → (r : Refusal) → OrMemory (IsWornLaying s name (create_sets s name plan rollback)) r
    → OrMemory (RefusesCreate s name plan rollback) r
worn_create s name plan rollback absent few room r (inl memory) = inl memory
worn_create s name plan rollback absent few room r (inr k) = inr (rw k.is (refusals.worn k.lays absent few room k.worn))

-- a create or an update that has no mark isn't settled
pub runs : (st : Stack) → IsForward st.act → st.status ≡ InProgress → ¬ IsSettled st
runs st forward running (other_act other) = other forward
runs st forward running (marked mark) = mark running

module _ (s : StateData) (name : List ℕ) (st : Stack) (found : stack_at s.stacks name ≡ Some st) (r : Refusal) where
  pub worn_update : (plan : PlanData) (rollback : Bool) → st.act ≢ Delete → HasRoomFor s plan.items
      → OrMemory (IsWornLaying s st.name (update_sets s st plan rollback)) r
      → OrMemory (RefusesUpdate s name plan rollback) r
  worn_update plan rollback kept room (inl memory) = inl memory
  worn_update plan rollback kept room (inr k) = inr (rw k.is (refusals.worn st k.lays found kept room k.worn))

  pub worn_delete : OrMemory (IsWornLaying s st.name (delete_sets s st)) r → OrMemory (RefusesDelete s name) r
  worn_delete (inl memory) = inl memory
  worn_delete (inr k) = inr (rw k.is (refusals.worn st k.lays found k.worn))

  pub worn_cancel : st.act ≢ Delete → IsForward st.act → st.status ≡ InProgress → HasRoomFor s (plan_back s st).items
      → OrMemory (IsWornLaying s st.name (rollback_sets s st Main)) r → OrMemory (RefusesCancel s name) r
  worn_cancel kept forward running room (inl memory) = inl memory
  worn_cancel kept forward running room (inr k) =
      inr (rw k.is (refusals.worn st k.lays found kept (runs st forward running) room k.worn))

-- the rollback that would wear a number out
pub worn_behind : (s : StateData) (e : ℕ) (st failed : Stack) → stack_at s.stacks st.name ≡ Some failed
    → (r : Refusal) → OrMemory (IsWornLaying s failed.name (rollback_sets s failed (Engine e))) r
    → OrMemory (WearsOutBehind s e st) r
worn_behind s e st failed found r (inl memory) = inl memory
worn_behind s e st failed found r (inr k) = inr (record {
  is = k.is;
  changes = _;
  entries = _;
  follows = record {
    failed = failed;
    is = found;
    its_name = stack-name s.stacks st.name failed found;
    lays = k.lays;
    changes = refl;
    entries = refl;
  };
  worn = k.worn;
})
