-- What a rollback is read off: a move that marks its stack as failed, its graph's update nodes, and what the stack
-- would go back to.
use Rattle.std.proofs.Common.{◌≡◌, ◌≤◌, ℕ, List, [], ◌∷◌, length, Some, refl, arith}
use Rattle.std.specs.Prelude.{Contains}
use Rattle.heat_plan.specs.declared.item.Item.{Item}
use Rattle.heat_plan.specs.declared.phase.Status.{Status}
use Rattle.heat_plan.specs.declared.phase.Status.TheVariants.{Complete, Failed, InProgress}
use Rattle.traversal_graph.specs.Nodes.{update_nodes}
use Rattle.mail_table.specs.Mails.{cut_job, job_at}
use Rattle.mail_table.specs.declared.mail.Job.{Job}
use Rattle.core_state.specs.State.{StateData, stack_at}
use Rattle.core_state.specs.declared.past.Past.{Past}
use Rattle.core_state.specs.declared.stack.Stack.{Stack}
use Rattle.step_relation.specs.Orders.{back_after}
use Rattle.bound_laws.proofs.Forms.{RowForm}

-- what a move leaves that marks a stack as failed
pub record Marks (s u : StateData) (e : ℕ) (j : Job) (st : Stack) : Type 0 where
  pub its : job_at s.jobs e ≡ Some j
  pub live : Contains s.live e
  pub lives : u.live ≡ s.live
  pub jobs : u.jobs ≡ cut_job e s.jobs
  pub letters : u.letters ≡ s.letters
  pub pasts : u.pasts ≡ s.pasts
  pub rows : RowForm s u
  pub next : s.next.row ≤ u.next.row
  pub in_table : stack_at s.stacks st.name ≡ Some st
  pub under : st.status ≡ InProgress

pub updates_length : (items : List Item) (ns : List ℕ) → length (update_nodes items ns) ≤ length items
updates_length [] ns = omega arith
updates_length (item ∷ items) [] = omega arith
updates_length (item ∷ items) (n ∷ ns) = let le = updates_length items ns in omega (arith, le)

-- what a stack without a mark would go back to
pub back_open : (st : Stack) (p : Past) → st.status ≡ InProgress → back_after st p ≡ p.back
back_open st p under = by st.status under where
  by : (x : Status) → x ≡ InProgress → back_after (record st { status = x }) p ≡ p.back
  by InProgress is = refl
  by Complete is = cc
  by Failed is = cc
