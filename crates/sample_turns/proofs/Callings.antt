-- An engine is at one call alone.
use Rattle.std.proofs.Common.{subst, ℕ, ◌≡◌}
use Rattle.std.specs.Prelude.{Some}
use Rattle.heat_plan.specs.declared.phase.Act.{Act}
use Rattle.row_table.specs.Rows.{row_at}
use Rattle.row_table.specs.declared.row.Row.{Row}
use Rattle.mail_table.specs.declared.mail.Job.{Job}
use Rattle.mail_table.specs.declared.mail.Stage.{Stage}
use Rattle.core_state.specs.State.{StateData}
use Rattle.step_relation.specs.Asks.{Calls}
use Rattle.step_ends.specs.Answers.{IsCall}
use Rattle.history_laws.proofs.tables.Rows.{same_some}

-- what holds for the act of its row holds for that of each of its calls
pub said_of_each : (s : StateData) (e : ℕ) (stage : Stage) (Says : Act → Type 0) (j : Job) (r : Row)
    → IsCall s e stage j r → Says r.act
    → (k : Calls s e stage) → Says k.row.act
said_of_each s e stage Says j r call says k =
    subst (λ (x : Row). Says x.act)
    (same_some r k.row call.found (subst (λ (x : Job). row_at s.rows x.row ≡ Some k.row)
    (same_some k.job j k.works.its call.works.its) k.found)) says
