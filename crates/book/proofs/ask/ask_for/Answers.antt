-- What was prepared has changed nothing, and then the cloud is asked.
use Rattle.std.proofs.Common.{ap, ◌∙◌}
use Rattle.std.specs.Prelude.{Err}
use Rattle.book.proofs.Calling.{workable_of}
use Rattle.book.proofs.Growing.{unasked}
use Rattle.book.proofs.Settings.{ready_after, turns_after, wants, wears, workable_after, worn_refusal}
use Rattle.book.proofs.ask.ask_for.Goals as goal

pub prepare-requires-clause-workable : goal.prepare-requires-clause-workable
prepare-requires-clause-workable g c = workable_of _ _ _ c.requires.workable

pub ask_prepared-requires-clause-workable : goal.ask_prepared-requires-clause-workable
ask_prepared-requires-clause-workable g c = workable_after _ _ _ _ _ c.prepare.ensures.state c.prepare.ensures.entries
    c.requires.workable

pub ask_prepared-requires-clause-ready : goal.ask_prepared-requires-clause-ready
ask_prepared-requires-clause-ready g c = ready_after _ _ _ _ c.prepare.ensures.shown c.prepare.ensures.state
    c.requires.ready

pub returns-in-Ok : goal.returns-in-Ok
returns-in-Ok g c = turns_after c.args.e _ _ _ _ _ _ _ _ _ _ _ _ _ c.prepare.ensures.state c.prepare.ensures.entries
    c.prepare.ensures.shown c.prepare.ensures.faults c.ask_prepared.ensures

pub returns-in-Err-Worn : goal.returns-in-Err-Worn
returns-in-Err-Worn g c = wears c.args.e _ _ _ _ _ _ _ _ _ _ _ (g.met.K.Keeper.lawful _) c.prepare.ensures.state
    c.prepare.ensures.entries c.prepare.ensures.shown c.prepare.ensures.faults c.requires.ready (unasked _)
    (worn_refusal _ c.args.e c.prepare.result c.prepare.ensures.cause
    (c.in-Err-Worn.is ∙ ap Err c.in-Err-Worn.field-0-is))

pub returns-in-Err : goal.returns-in-Err
returns-in-Err g c = wants c.args.e _ _ _ _ _ _ _ _ _ _ _ (g.met.K.Keeper.lawful _) c.prepare.ensures.state
    c.prepare.ensures.entries c.prepare.ensures.shown c.prepare.ensures.faults c.requires.ready (unasked _)
