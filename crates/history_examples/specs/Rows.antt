-- Single moves with their changes written out: behind each the rows are as far as their graphs say.
use Rattle.std.specs.Prelude.{[], ◌∷◌, ◌≡◌, ℕ}
use Rattle.heat_value.specs.Data.{Members}
use Rattle.heat_plan.specs.declared.phase.Act.TheVariants.{Create, Init}
use Rattle.heat_plan.specs.declared.phase.Status.TheVariants.{InProgress}
use Rattle.row_table.specs.declared.row.Row.{Row}
use Rattle.mail_table.specs.declared.mail.Stage.TheVariants.{Asking}
use Rattle.core_state.specs.Changes.{applied}
use Rattle.core_state.specs.State.{StateData}
use Rattle.core_state.specs.declared.change.Change.TheVariants.{PutJob, PutRow}
use Rattle.type_catalog.specs.declared.effect.Effect.{Effect}
use Rattle.step_relation.specs.Begins.{Begins}
use Rattle.step_relation.specs.Given.{Prepared}
use Rattle.step_relation.specs.Runs.{IsTied, Judges}
use Rattle.step_relation.specs.Writes.{with_stage}
use Rattle.step_relation.specs.Sound.{Standing}
use Rattle.graph_laws.specs.fits.Laws.{AllRowsFit}

-- a row at INIT when it is begun: of the item's kind now, whatever plan it was made for
abbrev pub begun_row : (s : StateData) (e : ℕ) → Begins s e → Members → Row
begun_row s e k props = record k.row {
  act = Create;
  status = InProgress;
  kind = k.item.kind;
  props = props;
  trav = k.stack.trav;
  requires_ = k.required;
  policy = k.item.policy;
}

-- a row at INIT is begun, for the stack's traversal
abbrev pub BegunFits : Type 0
BegunFits = (judges : Judges) (s : StateData) (e : ℕ) (k : Begins s e) (props : Members) (effect : Effect) → Standing s
    → IsTied judges s e (Prepared props effect) → k.row.act ≡ Init
    → AllRowsFit (applied (PutRow (begun_row s e k props) ∷ PutJob (with_stage Asking k.job) ∷ []) s)
