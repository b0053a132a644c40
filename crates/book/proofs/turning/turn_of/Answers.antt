-- Each part of a turn, as a turn.
use Rattle.step_relation.specs.MailFits.{asks, polls}
use Rattle.mail_table.specs.declared.mail.Stage.TheVariants.{Asking, Polling}
use Rattle.std.proofs.Common.{refl}
use Rattle.book.proofs.Calling.{calling, workable_of}
use Rattle.book.proofs.Growing.{unasked}
use Rattle.book.proofs.Keepers.{itself}
use Rattle.book.proofs.QuietTurns.{nothing_made, nothing_refused, quiet_honest, quiet_storable, quietly}
use Rattle.book.proofs.Settings.{is_lost, rests}
use Rattle.book.proofs.turning.turn_of.Goals as goal

pub ask_for-requires-clause-calls : goal.ask_for-requires-clause-calls
ask_for-requires-clause-calls g c = calling _ c.requires.workable.workable.jobs c.args.e _ Asking asks c.in-Work.ensures
    c.in-Asking.is

pub poll_for-requires-clause-calls : goal.poll_for-requires-clause-calls
poll_for-requires-clause-calls g c = calling _ c.requires.workable.workable.jobs c.args.e _ Polling polls
    c.in-Work.ensures c.in-Polling.is

pub returns-in-Take : goal.returns-in-Take
returns-in-Take g c = quietly c.args.e c.take-made.result _ _ _ _ _ _ _ _ _ _ c.make_quietly.ensures
    (nothing_made _ _ c.take-made.result c.take-made.ensures.made)
    (nothing_refused _ _ c.take-made.result c.take-made.ensures.cause)

pub returns-in-TakeOver : goal.returns-in-TakeOver
returns-in-TakeOver g c = quietly c.args.e c.takeover-made.result _ _ _ _ _ _ _ _ _ _ c.make_quietly-in-TakeOver.ensures
    (nothing_made _ _ c.takeover-made.result c.takeover-made.ensures.made)
    (nothing_refused _ _ c.takeover-made.result c.takeover-made.ensures.cause)

pub returns-in-Taken : goal.returns-in-Taken
returns-in-Taken g c = quietly c.args.e c.begin_job-made.result _ _ _ _ _ _ _ _ _ _ c.make_quietly-in-Taken.ensures
    c.begin_job-made.ensures.made c.begin_job-made.ensures.cause

pub returns-in-Ending : goal.returns-in-Ending
returns-in-Ending g c = quietly c.args.e c.finish-made.result _ _ _ _ _ _ _ _ _ _ c.make_quietly-in-Ending.ensures
    (nothing_made _ _ c.finish-made.result c.finish-made.ensures.made)
    (nothing_refused _ _ c.finish-made.result c.finish-made.ensures.cause)

pub make_quietly-requires-clause-storable : goal.make_quietly-requires-clause-storable
make_quietly-requires-clause-storable g c =
    quiet_storable _ (workable_of _ _ _ c.requires.workable) c.args.e c.take-made.result
    (nothing_made _ _ c.take-made.result c.take-made.ensures.made)

pub make_quietly-requires-clause-honest : goal.make_quietly-requires-clause-honest
make_quietly-requires-clause-honest g c = quiet_honest _ c.args.e c.take-made.result
    (nothing_refused _ _ c.take-made.result c.take-made.ensures.cause)

pub make_quietly-requires-in-TakeOver-clause-storable : goal.make_quietly-requires-in-TakeOver-clause-storable
make_quietly-requires-in-TakeOver-clause-storable g c =
    quiet_storable _ (workable_of _ _ _ c.requires.workable) c.args.e c.takeover-made.result
    (nothing_made _ _ c.takeover-made.result c.takeover-made.ensures.made)

pub make_quietly-requires-in-TakeOver-clause-honest : goal.make_quietly-requires-in-TakeOver-clause-honest
make_quietly-requires-in-TakeOver-clause-honest g c = quiet_honest _ c.args.e c.takeover-made.result
    (nothing_refused _ _ c.takeover-made.result c.takeover-made.ensures.cause)

pub make_quietly-requires-in-Taken-clause-storable : goal.make_quietly-requires-in-Taken-clause-storable
make_quietly-requires-in-Taken-clause-storable g c =
    quiet_storable _ (workable_of _ _ _ c.requires.workable) c.args.e c.begin_job-made.result
    c.begin_job-made.ensures.made

pub make_quietly-requires-in-Taken-clause-honest : goal.make_quietly-requires-in-Taken-clause-honest
make_quietly-requires-in-Taken-clause-honest g c = quiet_honest _ c.args.e c.begin_job-made.result
    c.begin_job-made.ensures.cause

pub make_quietly-requires-in-Ending-clause-storable : goal.make_quietly-requires-in-Ending-clause-storable
make_quietly-requires-in-Ending-clause-storable g c =
    quiet_storable _ (workable_of _ _ _ c.requires.workable) c.args.e c.finish-made.result
    (nothing_made _ _ c.finish-made.result c.finish-made.ensures.made)

pub make_quietly-requires-in-Ending-clause-honest : goal.make_quietly-requires-in-Ending-clause-honest
make_quietly-requires-in-Ending-clause-honest g c = quiet_honest _ c.args.e c.finish-made.result
    (nothing_refused _ _ c.finish-made.result c.finish-made.ensures.cause)

pub returns-in-Lost : goal.returns-in-Lost
returns-in-Lost g c = is_lost c.args.e _ _ _ _ _ _ _ _ _ _ _ (g.met.K.Keeper.lawful _) refl refl (itself _) refl
    c.requires.ready (unasked _) (record { drawn = c.requires.drawn; ended = c.in-Lost.ensures })

pub returns-in-Idle : goal.returns-in-Idle
returns-in-Idle g c = rests c.args.e _ _ _ _ _ _ _ _ _ _ _ (g.met.K.Keeper.lawful _) refl refl (itself _) refl
    c.requires.ready (unasked _) c.in-Idle.ensures
