-- The begin that is next, as a turn; an engine without a job begins nothing.
use Rattle.std.proofs.Common.{refl}
use Rattle.check_steps.proofs.Seeing.{next_works}
use Rattle.book.proofs.Beginnings.{begin_made, begin_refused}
use Rattle.book.proofs.Growing.{unasked}
use Rattle.book.proofs.Keepers.{itself}
use Rattle.book.proofs.QuietTurns.{quiet_honest, quiet_storable, quietly}
use Rattle.book.proofs.Settings.{is_lost, rests, wants}
use Rattle.book.proofs.committing.begin_given.Goals as goal

pub make_quietly-requires-clause-storable : goal.make_quietly-requires-clause-storable
make_quietly-requires-clause-storable g c =
    let b = c.requires.begins.still (next_works _ c.args.e _ _ c.in-Work.ensures) in
    quiet_storable _ c.requires.workable c.args.e c.begin-made.result
    (begin_made _ c.args.e c.requires.begins.work b _ c.requires.begins.given c.begin-made.result
    c.begin-made.ensures.made)

pub make_quietly-requires-clause-honest : goal.make_quietly-requires-clause-honest
make_quietly-requires-clause-honest g c =
    let b = c.requires.begins.still (next_works _ c.args.e _ _ c.in-Work.ensures) in
    quiet_honest _ c.args.e c.begin-made.result
    (begin_refused _ c.args.e c.requires.begins.work b _ c.requires.begins.given c.begin-made.result
    c.begin-made.ensures.cause)

pub returns-in-Lost-clause-turned : goal.returns-in-Lost-clause-turned
returns-in-Lost-clause-turned g c it = is_lost c.args.e _ _ _ _ it it _ _ _ _ _ (g.met.K.Keeper.lawful _) refl refl
    (itself _) refl c.requires.ready (unasked it) (record { drawn = c.requires.drawn; ended = c.in-Lost.ensures })

pub returns-in-Idle-clause-turned : goal.returns-in-Idle-clause-turned
returns-in-Idle-clause-turned g c it = rests c.args.e _ _ _ _ it it _ _ _ _ _ (g.met.K.Keeper.lawful _) refl refl
    (itself _) refl c.requires.ready (unasked it) c.in-Idle.ensures

pub returns-in-Memory-clause-turned : goal.returns-in-Memory-clause-turned
returns-in-Memory-clause-turned g c it = wants c.args.e _ _ _ _ it it _ _ _ _ _ (g.met.K.Keeper.lawful _) refl refl
    (itself _) refl c.requires.ready (unasked it)

pub returns-in_default-clause-turned : goal.returns-in_default-clause-turned
returns-in_default-clause-turned g c it =
    let b = c.requires.begins.still (next_works _ c.args.e _ _ c.in-Work.ensures) in
    quietly c.args.e c.begin-made.result _ _ _ _ it _ _ _ _ _ c.make_quietly.ensures
    (begin_made _ c.args.e c.requires.begins.work b _ c.requires.begins.given c.begin-made.result
    c.begin-made.ensures.made)
    (begin_refused _ c.args.e c.requires.begins.work b _ c.requires.begins.given c.begin-made.result
    c.begin-made.ensures.cause)

pub returns-in_default-clause-unprepared : goal.returns-in_default-clause-unprepared
returns-in_default-clause-unprepared g c is next = absurd (c.in_default.not-Memory is)
