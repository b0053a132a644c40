-- Single moves with their changes written out: behind each the jobs fit their rows and nodes.
use Rattle.std.specs.Prelude.{Some, [], ◌∷◌, ◌≡◌, ◌≢◌, ℕ}
use Rattle.heat_value.specs.Data.{Members}
use Rattle.heat_plan.specs.declared.item.Policy.TheVariants.{Retain}
use Rattle.heat_plan.specs.declared.phase.Act.TheVariants.{Init}
use Rattle.heat_plan.specs.declared.phase.Status.TheVariants.{InProgress}
use Rattle.row_table.specs.Rows.{row_at}
use Rattle.row_table.specs.declared.row.Row.{Row}
use Rattle.mail_table.specs.declared.mail.Stage.TheVariants.{Asking}
use Rattle.core_state.specs.Changes.{applied}
use Rattle.core_state.specs.State.{StateData}
use Rattle.core_state.specs.declared.change.Change.TheVariants.{PutJob, PutRow}
use Rattle.type_catalog.specs.declared.effect.Effect.{Effect}
use Rattle.step_relation.specs.Begins.{Begins}
use Rattle.step_relation.specs.Cleanups.{Cleans, IsKept, IsStuck}
use Rattle.step_relation.specs.Given.{Prepared}
use Rattle.step_relation.specs.Rows.{deleted_row}
use Rattle.step_relation.specs.Runs.{IsTied, Judges}
use Rattle.step_relation.specs.Writes.{with_stage}
use Rattle.step_relation.specs.MailFits.{JobsFit}
use Rattle.step_relation.specs.Sound.{Standing}

-- a row that is under way for the stack's traversal is gone on with
abbrev pub ResumedFits : Type 0
ResumedFits = (judges : Judges) (s : StateData) (e : ℕ) (k : Begins s e) (props : Members) (effect : Effect)
    → Standing s
    → IsTied judges s e (Prepared props effect)
    → k.row.act ≢ Init → k.row.status ≡ InProgress → k.row.trav ≡ k.stack.trav
    → JobsFit (applied (PutJob (with_stage Asking k.job) ∷ []) s)

-- a row is to be deleted, for the stack's traversal
abbrev pub DeletedFits : Type 0
DeletedFits = (s : StateData) (e : ℕ) (k : Cleans s e) (r : Row) → Standing s → row_at s.rows k.job.row ≡ Some r
    → ¬ IsKept s k.stack r → r.act ≢ Init → ¬ IsStuck r k.stack.trav → r.policy ≢ Retain
    → JobsFit (applied (PutRow (deleted_row r k.stack.trav) ∷ PutJob (with_stage Asking k.job) ∷ []) s)
