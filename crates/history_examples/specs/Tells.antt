-- Single moves with their changes and entries written out: behind each what may be alive fits the rows.
use Rattle.std.specs.Prelude.{List, Some, ℕ, ◌++◌, ◌∷◌, ◌≡◌, ◌≢◌}
use Rattle.heat_value.specs.Data.{Members}
use Rattle.heat_plan.specs.declared.item.Policy.TheVariants.{Retain}
use Rattle.heat_plan.specs.declared.phase.Act.TheVariants.{Delete, Init, Update}
use Rattle.heat_plan.specs.declared.phase.Status.TheVariants.{Complete, InProgress}
use Rattle.row_table.specs.Rows.{row_at}
use Rattle.row_table.specs.declared.row.Row.{Row}
use Rattle.mail_table.specs.declared.mail.Stage.TheVariants.{Asking, Polling}
use Rattle.core_state.specs.Changes.{applied}
use Rattle.core_state.specs.State.{StateData}
use Rattle.core_state.specs.declared.entry.Entry.{Entry}
use Rattle.type_catalog.specs.declared.effect.Effect.{Effect}
use Rattle.step_relation.specs.Asks.{Calls}
use Rattle.step_relation.specs.Begins.{Begins, IsSoft, begun_changes, begun_entries}
use Rattle.step_relation.specs.Cleanups.{Cleans, IsKept, IsStuck, purged_changes, purged_entries}
use Rattle.step_relation.specs.Given.{Prepared}
use Rattle.step_relation.specs.Rows.{token_of}
use Rattle.step_relation.specs.Runs.{IsTied, Judges}
use Rattle.step_relation.specs.Writes.{call_entry}
use Rattle.step_relation.specs.Could.{IsPossible}
use Rattle.step_relation.specs.Opening.{Opening}
use Rattle.step_relation.specs.Agrees.{Agrees}
use Rattle.step_relation.specs.Policies.{MayBeReleased}
use Rattle.step_relation.specs.Sound.{Sound}
use Rattle.heat_plan.specs.declared.calls.Answered.TheVariants as answer
use Rattle.heat_plan.specs.declared.calls.Request.TheVariants as request

-- a row whose properties may be changed in place: they are its target until the cloud says that it is ready
abbrev pub changing_row : (s : StateData) (e : ℕ) → Begins s e → Members → Row
changing_row s e k props = record k.row {
  act = Update;
  status = InProgress;
  target = Some props;
  trav = k.stack.trav;
  requires_ = k.required;
  policy = k.item.policy;
}

-- a change in place is begun: the cloud is still to be asked
abbrev pub InPlaceAgrees : Type 0
InPlaceAgrees =
    (judges : Judges) (o : Opening) (h : List Entry) (s : StateData) (e : ℕ) (k : Begins s e) (props : Members)
    (effect : Effect) → Sound o h s → IsTied judges s e (Prepared props effect) → k.row.act ≢ Init
    → k.row.status ≡ Complete
    → IsSoft k.row k.item props effect → IsPossible o (h ++ begun_entries e k.job Asking (changing_row s e k props))
    → Agrees o (h ++ begun_entries e k.job Asking (changing_row s e k props))
    (applied (begun_changes k.job Asking (changing_row s e k props)) s)

-- what is told where a row at DELETE is gone from the cloud
abbrev pub gone_entries : (s : StateData) (e : ℕ) → Calls s e Polling → List Entry
gone_entries s e k =
    call_entry e k.row request.Gone answer.Gone
    ∷ purged_entries e k.job k.row

-- the row goes from the table
abbrev pub PurgeAgrees : Type 0
PurgeAgrees = (o : Opening) (h : List Entry) (s : StateData) (e : ℕ) (k : Calls s e Polling) → Sound o h s
    → k.row.act ≡ Delete → IsPossible o (h ++ gone_entries s e k)
    → Agrees o (h ++ gone_entries s e k) (applied (purged_changes k.job k.row) s)

-- a row that no name of the plan has any more is given up, by its policy
abbrev pub GivenUpIsRetained : Type 0
GivenUpIsRetained = (o : Opening) (h : List Entry) (s : StateData) (e : ℕ) (k : Cleans s e) (r : Row) → Sound o h s
    → IsPossible o h → row_at s.rows k.job.row ≡ Some r → ¬ IsKept s k.stack r → r.act ≢ Init → ¬ IsStuck r k.stack.trav
    → r.policy ≡ Retain
    → MayBeReleased o h (token_of r)
