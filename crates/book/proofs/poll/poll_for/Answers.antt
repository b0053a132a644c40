-- A resource that was sent away is asked after; another is polled.
use Rattle.std.proofs.Common.{ap, subst, sym, ◌∙◌}
use Rattle.std.specs.Prelude.{Err, ◌≢◌}
use Rattle.heat_plan.specs.declared.phase.Act.TheVariants.{Delete}
use Rattle.row_table.specs.declared.row.Row.{Row}
use Rattle.mail_table.specs.declared.mail.Stage.TheVariants.{Polling}
use Rattle.core_state.specs.State.{StateData}
use Rattle.step_relation.specs.Asks.{Calls}
use Rattle.book.proofs.Calling.{workable_of}
use Rattle.book.proofs.Growing.{unasked}
use Rattle.book.proofs.Settings.{ready_after, turns_after, wants, wears, workable_after, worn_refusal}
use Rattle.book.proofs.poll.poll_for.Goals as goal

pub look_for-requires-clause-goes : goal.look_for-requires-clause-goes
look_for-requires-clause-goes g c k = ap (λ (r : Row). r.act) (c.called_row.ensures Polling k)
    ∙ c.if-is_sent_away.ensures.yes

pub poll_prepared-requires-clause-stays : goal.poll_prepared-requires-clause-stays
poll_prepared-requires-clause-stays g c =
    subst (λ (s : StateData). (k : Calls s c.args.e Polling) → k.row.act ≢ Delete) (sym c.prepare.ensures.state)
    (λ k d. c.if-is_sent_away.ensures.no_ (ap (λ (r : Row). r.act) (sym (c.called_row.ensures Polling k)) ∙ d))

pub prepare-requires-clause-workable : goal.prepare-requires-clause-workable
prepare-requires-clause-workable g c = workable_of _ _ _ c.requires.workable

pub poll_prepared-requires-clause-workable : goal.poll_prepared-requires-clause-workable
poll_prepared-requires-clause-workable g c = workable_after _ _ _ _ _ c.prepare.ensures.state c.prepare.ensures.entries
    c.requires.workable

pub poll_prepared-requires-clause-ready : goal.poll_prepared-requires-clause-ready
poll_prepared-requires-clause-ready g c = ready_after _ _ _ _ c.prepare.ensures.shown c.prepare.ensures.state
    c.requires.ready

pub returns-in-Ok : goal.returns-in-Ok
returns-in-Ok g c = turns_after c.args.e _ _ _ _ _ _ _ _ _ _ _ _ _ c.prepare.ensures.state c.prepare.ensures.entries
    c.prepare.ensures.shown c.prepare.ensures.faults c.poll_prepared.ensures

pub returns-in-Err-Worn : goal.returns-in-Err-Worn
returns-in-Err-Worn g c = wears c.args.e _ _ _ _ _ _ _ _ _ _ _ (g.met.K.Keeper.lawful _) c.prepare.ensures.state
    c.prepare.ensures.entries c.prepare.ensures.shown c.prepare.ensures.faults c.requires.ready (unasked _)
    (worn_refusal _ c.args.e c.prepare.result c.prepare.ensures.cause
    (c.in-Err-Worn.is ∙ ap Err c.in-Err-Worn.field-0-is))

pub returns-in-Err : goal.returns-in-Err
returns-in-Err g c = wants c.args.e _ _ _ _ _ _ _ _ _ _ _ (g.met.K.Keeper.lawful _) c.prepare.ensures.state
    c.prepare.ensures.entries c.prepare.ensures.shown c.prepare.ensures.faults c.requires.ready (unasked _)
