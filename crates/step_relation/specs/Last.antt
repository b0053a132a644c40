-- The plan that a rollback goes back to, by commands and marks alone.
use Rattle.std.specs.Prelude.{Bool, Contains, List, None, Some, ℕ, ◌++◌, ◌∷◌, ◌≡◌, ◌≢◌}
use Rattle.heat_plan.specs.Plans.{PlanData}
use Rattle.heat_plan.specs.declared.phase.Act.{Act}
use Rattle.heat_plan.specs.declared.phase.Act.TheVariants.{Create, Delete}
use Rattle.heat_plan.specs.declared.phase.Status.TheVariants.{Complete}
use Rattle.core_state.specs.State.{stack_at}
use Rattle.core_state.specs.declared.entry.Entry.{Entry}
use Rattle.core_state.specs.declared.stack.Stack.{Stack}
use Rattle.step_relation.specs.Freshness.{plan_of}
use Rattle.step_relation.specs.Orders.{past_of}
use Rattle.step_relation.specs.Newest.{Latest}
use Rattle.step_relation.specs.Opening.{Opening}
use Rattle.core_state.specs.declared.entry.What.TheVariants as what

-- a command of the stack
pub record IsCommandOf (stack : List ℕ) (e : Entry) (it : Latest) : Type 0 where
  pub rollback : Bool
  pub is : e.what ≡ what.Command stack it.trav it.act it.plan rollback

-- a mark of this traversal, without a cause
abbrev pub IsCompletion : List ℕ → ℕ → Entry → Type 0
IsCompletion stack trav e = (act : Act) × (e.what ≡ what.Mark stack trav act None)

-- a later entry completes the traversal
pub record IsCompleted (stack : List ℕ) (trav : ℕ) (h : List Entry) : Type 0 where
  pub entry : Entry
  pub among : Contains h entry
  pub completes : IsCompletion stack trav entry

-- the history has a create of the stack
pub record HasCreate (stack : List ℕ) (h : List Entry) : Type 0 where
  pub entry : Entry
  pub among : Contains h entry
  pub it : Latest
  pub command : IsCommandOf stack entry it
  pub creates : it.act ≡ Create

-- a command that isn't a delete, and whose traversal is completed later
pub record IsReached (stack : List ℕ) (e : Entry) (after : List Entry) (it : Latest) : Type 0 where
  pub command : IsCommandOf stack e it
  pub keeps : it.act ≢ Delete
  pub completed : IsCompleted stack it.trav after

-- none of the entries is one
abbrev pub IsNeverReached : List ℕ → List Entry → Type 0
IsNeverReached stack h = (before after : List Entry) (e : Entry) (it : Latest) → h ≡ before ++ e ∷ after
    → ¬ IsReached stack e after it

-- the opening's stack was complete, or was completed since
pub data WasReached (st : Stack) (h : List Entry) : Type 0 where
  at_first : st.status ≡ Complete → WasReached st h
  since : IsCompleted st.name st.trav h → WasReached st h

-- the plan that a rollback of the stack goes back to
pub data IsLast (o : Opening) (h : List Entry) (stack : List ℕ) : PlanData → Type 0 where
  reached : (before after : List Entry) (e : Entry) (it : Latest) → h ≡ before ++ e ∷ after → IsReached stack e after it
      → ¬ HasCreate stack after → IsNeverReached stack after → IsLast o h stack (plan_of it.plan)
  opened : (st : Stack) → ¬ HasCreate stack h → IsNeverReached stack h → stack_at o.state.stacks stack ≡ Some st
      → st.act ≢ Delete → WasReached st h → IsLast o h stack (plan_of st.plan)
  kept : ¬ HasCreate stack h → IsNeverReached stack h
      → ((st : Stack) → stack_at o.state.stacks stack ≡ Some st → st.act ≢ Delete → ¬ WasReached st h)
      → IsLast o h stack (plan_of (past_of o.state stack).back)
  created : (before after : List Entry) (e : Entry) (it : Latest) → h ≡ before ++ e ∷ after → IsCommandOf stack e it
      → it.act ≡ Create → ¬ HasCreate stack after → IsNeverReached stack (e ∷ after) → IsLast o h stack (plan_of None)
