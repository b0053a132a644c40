-- What was prepared has changed nothing, and then the cloud is asked.
use Rattle.std.proofs.Common.{ap, subst, sym, ◌∙◌}
use Rattle.std.specs.Prelude.{Err, ◌≡◌}
use Rattle.heat_plan.specs.declared.phase.Act.TheVariants.{Delete}
use Rattle.mail_table.specs.declared.mail.Stage.TheVariants.{Polling}
use Rattle.core_state.specs.State.{StateData}
use Rattle.step_relation.specs.Asks.{Calls}
use Rattle.book.proofs.Calling.{workable_of}
use Rattle.book.proofs.Growing.{unasked}
use Rattle.book.proofs.Settings.{ready_after, turns_after, wants, wears, workable_after, worn_refusal}
use Rattle.book.proofs.looking.look_for.Goals as goal

pub prepare-requires-clause-workable : goal.prepare-requires-clause-workable
prepare-requires-clause-workable g c = workable_of _ _ _ c.requires.workable

pub look_prepared-requires-clause-goes : goal.look_prepared-requires-clause-goes
look_prepared-requires-clause-goes g c =
    subst (λ (s : StateData). (k : Calls s c.args.e Polling) → k.row.act ≡ Delete)
    (sym c.prepare.ensures.state) c.requires.goes

pub look_prepared-requires-clause-workable : goal.look_prepared-requires-clause-workable
look_prepared-requires-clause-workable g c = workable_after _ _ _ _ _ c.prepare.ensures.state c.prepare.ensures.entries
    c.requires.workable

pub look_prepared-requires-clause-ready : goal.look_prepared-requires-clause-ready
look_prepared-requires-clause-ready g c = ready_after _ _ _ _ c.prepare.ensures.shown c.prepare.ensures.state
    c.requires.ready

pub returns-in-Ok : goal.returns-in-Ok
returns-in-Ok g c = turns_after c.args.e _ _ _ _ _ _ _ _ _ _ _ _ _ c.prepare.ensures.state c.prepare.ensures.entries
    c.prepare.ensures.shown c.prepare.ensures.faults c.look_prepared.ensures

pub returns-in-Err-Worn : goal.returns-in-Err-Worn
returns-in-Err-Worn g c = wears c.args.e _ _ _ _ _ _ _ _ _ _ _ (g.met.K.Keeper.lawful _) c.prepare.ensures.state
    c.prepare.ensures.entries c.prepare.ensures.shown c.prepare.ensures.faults c.requires.ready (unasked _)
    (worn_refusal _ c.args.e c.prepare.result c.prepare.ensures.cause
    (c.in-Err-Worn.is ∙ ap Err c.in-Err-Worn.field-0-is))

pub returns-in-Err : goal.returns-in-Err
returns-in-Err g c = wants c.args.e _ _ _ _ _ _ _ _ _ _ _ (g.met.K.Keeper.lawful _) c.prepare.ensures.state
    c.prepare.ensures.entries c.prepare.ensures.shown c.prepare.ensures.faults c.requires.ready (unasked _)
