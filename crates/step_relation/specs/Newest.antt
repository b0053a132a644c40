-- A stack's newest traversal, by its commands alone.
use Rattle.std.specs.Prelude.{Bool, List, Option, Some, bytes_eq, fold, if◌then◌else◌, option_map, ℕ}
use Rattle.heat_plan.specs.Plans.{PlanData}
use Rattle.heat_plan.specs.declared.phase.Act.{Act}
use Rattle.core_state.specs.State.{stack_at}
use Rattle.core_state.specs.declared.entry.Entry.{Entry}
use Rattle.core_state.specs.declared.entry.What.{What}
use Rattle.core_state.specs.declared.stack.Stack.{Stack}
use Rattle.step_relation.specs.Orders.{past_of}
use Rattle.step_relation.specs.Opening.{Opening}
use Rattle.core_state.specs.declared.entry.What.TheVariants as what

-- a traversal's number, act and plan
pub record Latest : Type 0 where
  pub trav : ℕ
  pub act : Act
  pub plan : Option PlanData

-- a stack's newest traversal
abbrev pub latest_of : Stack → Latest
latest_of st = record { trav = st.trav; act = st.act; plan = st.plan }

-- a command of the stack is the newest from then on
abbrev pub newest_by : List ℕ → Option Latest → What → Option Latest
newest_by s before (what.Command stack trav act plan rollback) = if bytes_eq stack s
    then Some (record { trav = trav; act = act; plan = plan }) else before
newest_by s before (what.Call token request given) = before
newest_by s before (what.Release token) = before
newest_by s before (what.Mark stack trav act cause) = before
newest_by s before (what.Rows writes) = before
newest_by s before (what.Mail writes) = before
newest_by s before (what.Engine change) = before
newest_by s before (what.Show it stack) = before
newest_by s before (what.Note line code path) = before
newest_by s before (what.Ran idle turns) = before
newest_by s before (what.Turned engine lost) = before
newest_by s before (what.Preview stack forecast) = before
newest_by s before what.Closed = before

-- that of the last command; without one, that of the stack in the opening
abbrev pub newest : Opening → List Entry → List ℕ → Option Latest
newest o h s = fold (λ (before : Option Latest) (e : Entry). newest_by s before e.what)
    (option_map latest_of (stack_at o.state.stacks s)) h

-- whether a failure of the newest traversal is rolled back
abbrev pub rollback_by : List ℕ → Bool → What → Bool
rollback_by s before (what.Command stack trav act plan rollback) = if bytes_eq stack s then rollback else before
rollback_by s before (what.Call token request given) = before
rollback_by s before (what.Release token) = before
rollback_by s before (what.Mark stack trav act cause) = before
rollback_by s before (what.Rows writes) = before
rollback_by s before (what.Mail writes) = before
rollback_by s before (what.Engine change) = before
rollback_by s before (what.Show it stack) = before
rollback_by s before (what.Note line code path) = before
rollback_by s before (what.Ran idle turns) = before
rollback_by s before (what.Turned engine lost) = before
rollback_by s before (what.Preview stack forecast) = before
rollback_by s before what.Closed = before

-- by the stack's last command; without one, by the opening
abbrev pub rollback_of : Opening → List Entry → List ℕ → Bool
rollback_of o h s = fold (λ (before : Bool) (e : Entry). rollback_by s before e.what) (past_of o.state s).rollback h
