-- The moves of a begin, by what was found.
use Rattle.std.proofs.Common.{◌≡◌, ◌≢◌, None, refl}
use Rattle.std.specs.Prelude.{ℕ}
use Rattle.heat_value.specs.Data.{Members}
use Rattle.heat_plan.specs.declared.phase.Act.TheVariants.{Init}
use Rattle.heat_plan.specs.declared.phase.Status.TheVariants.{Complete, Failed, InProgress}
use Rattle.mail_table.specs.declared.mail.Stage.TheVariants.{Asking, Ending}
use Rattle.core_state.specs.State.{StateData}
use Rattle.type_catalog.specs.declared.effect.Effect.{Effect}
use Rattle.step_relation.specs.Begins.{IsSame, IsSoft, MustGo, begun_changes, begun_entries, left_changes}
use Rattle.step_relation.specs.Begins.{left_entries, onward_changes, onward_entries}
use Rattle.step_relation.specs.Given.{Prepared}
use Rattle.step_relation.specs.Moves.{Move, begin_failed, begin_in_place, begin_init, begin_replaced, begin_resumed}
use Rattle.step_relation.specs.Moves.{begin_same}
use Rattle.check_steps.specs.declared.begin_found.Found.{Found}
use Rattle.check_steps.specs.Founds.{IsFound, begin_of}
use Rattle.check_steps.specs.Writes.{kept, started, succeeded_changes, succeeded_entries, updated}

module _ (s : StateData) (e : ℕ) (it : Found) (props : Members) (effect : Effect) (found : IsFound s e it) where
  pub starts : it.row.now.act ≡ Init → Move s e (Prepared props effect) None
      (begun_changes it.job.now Asking (started it props)) (begun_entries e it.job.now Asking (started it props))
  starts init = begin_init (begin_of s e it found) props effect _ _ init refl refl

  pub keeps : it.row.now.act ≢ Init → it.row.now.status ≡ Complete → IsSame it.row.now it.item.now props
      → Move s e (Prepared props effect) None (begun_changes it.job.now Ending (kept it))
      (begun_entries e it.job.now Ending (kept it))
  keeps begun complete is = begin_same (begin_of s e it found) props effect _ _ begun complete is refl refl

  pub updates : it.row.now.act ≢ Init → it.row.now.status ≡ Complete → IsSoft it.row.now it.item.now props effect
      → Move s e (Prepared props effect) None
      (begun_changes it.job.now Asking (updated it props)) (begun_entries e it.job.now Asking (updated it props))
  updates begun complete soft = begin_in_place (begin_of s e it found) props effect _ _ begun complete soft refl refl

  pub resumes : it.row.now.act ≢ Init → it.row.now.status ≡ InProgress → it.row.now.trav ≡ it.stack.now.trav
      → Move s e (Prepared props effect) None (onward_changes it.job.now Asking) (onward_entries e it.job.now Asking)
  resumes begun going ours = begin_resumed (begin_of s e it found) props effect _ _ begun going ours refl refl

  pub leaves : it.row.now.act ≢ Init → it.row.now.status ≡ Failed → it.row.now.trav ≡ it.stack.now.trav
      → Move s e (Prepared props effect) None (left_changes e it.row.now) (left_entries e it.row.now)
  leaves begun failed ours = begin_failed (begin_of s e it found) props effect _ _ begun failed ours refl refl

  pub replaces : it.row.now.act ≢ Init → MustGo it.row.now it.item.now it.stack.now.trav props effect
      → Move s e (Prepared props effect) None (succeeded_changes s e it props) (succeeded_entries s e it props)
  replaces begun must = begin_replaced (begin_of s e it found) props effect _ _ begun must refl refl
