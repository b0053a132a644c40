-- What a job says of its stack's mark.
use Rattle.std.proofs.Common.{◌≡◌, ◌≢◌, ℕ, Some, refl, sym, ap, ◌∙◌}
use Rattle.heat_plan.specs.declared.phase.Status.{Status}
use Rattle.heat_plan.specs.declared.phase.Status.TheVariants.{Complete, Failed, InProgress}
use Rattle.traversal_graph.specs.declared.shape.Node.{Node}
use Rattle.row_table.specs.Rows.{row_at}
use Rattle.row_table.specs.declared.row.Row.{Row}
use Rattle.mail_table.specs.Mails.{job_at}
use Rattle.mail_table.specs.declared.mail.Job.{Job}
use Rattle.core_state.specs.State.{StateData, stack_at}
use Rattle.core_state.specs.declared.graph.Graph.{Graph}
use Rattle.core_state.specs.declared.stack.Stack.{Stack}
use Rattle.step_relation.specs.Freshness.{IsOverrun, Names}
use Rattle.step_relation.specs.MailFits.{IsUnderWay}
use Rattle.step_relation.specs.Sound.{Standing}
use Rattle.history_laws.proofs.tables.Facts.{job_fits, named_marks}
use Rattle.history_laws.proofs.tables.Fresh.{overrun_is_old}
use Rattle.history_laws.proofs.tables.Rows.{same_some}

-- a stack with a job of its newest traversal isn't complete
pub not_complete : (s : StateData) → Standing s → (e : ℕ) (j : Job) (st : Stack) (g : Graph) (node : Node)
    → job_at s.jobs e ≡ Some j
    → Names s j.letter st g node → st.status ≢ Complete
not_complete s S e j st g node its names is =
    (job_fits s S e j st g node its names).undone
    ((named_marks s S j.letter st g node names).complete.0 is j.letter.node node names.its_node)

pub failed_by : (status : Status) → status ≢ InProgress → status ≢ Complete → status ≡ Failed
failed_by Failed a b = refl
failed_by InProgress a b = absurd (a refl)
failed_by Complete a b = absurd (b refl)

-- the row of a job that asks or polls is under way
pub under_way : (s : StateData) → Standing s → (e : ℕ) (j : Job) (r : Row) → job_at s.jobs e ≡ Some j
    → IsUnderWay j.stage → row_at s.rows j.row ≡ Some r
    → (r.status ≡ InProgress) × (r.trav ≡ j.letter.trav)
under_way s S e j r its stage at =
    let k = S.shape.jobs.under_way e j its stage in
    let is : k.row ≡ r = same_some k.row r k.found at in
    (ap (λ (x : Row). x.status) (sym is) ∙ k.status, ap (λ (x : Row). x.trav) (sym is) ∙ k.newest)

-- one that is overrun has another traversal than its stack
pub overrun_other : (s : StateData) → Standing s → (e : ℕ) (j : Job) (st : Stack) → job_at s.jobs e ≡ Some j
    → IsOverrun s j
    → stack_at s.stacks j.letter.stack ≡ Some st → j.letter.trav ≢ st.trav
overrun_other s S e j st its overrun at same = overrun_is_old s S e j its overrun st
    (record { in_table = at; newest = sym same })
