-- The fence, or the step that was looked at.
use Rattle.std.proofs.lemmas.Bool.{OnFalse_at, OnTrue_at}
use Rattle.book.proofs.Beginnings.{has_point}
use Rattle.book.proofs.Calling.{workable_of}
use Rattle.book.proofs.Fences.{committed_as, fences_off, may_begin, plain_has_memory}
use Rattle.book.proofs.committing.commit_of.Goals as goal

pub is_overtaken-requires : goal.is_overtaken-requires
is_overtaken-requires g c = has_point _ c.args.e c.requires.workable.workable.graphs

pub returns-then-is_overtaken-clause-committed : goal.returns-then-is_overtaken-clause-committed
returns-then-is_overtaken-clause-committed g c = fences_off c.args.e _ _ _ _ _ _ (g.met.K.Keeper.lawful _) _
    c.requires.ready (OnTrue_at c.if-is_overtaken.true c.is_overtaken.ensures.yes)

pub returns-then-is_overtaken-clause-unprepared : goal.returns-then-is_overtaken-clause-unprepared
returns-then-is_overtaken-clause-unprepared g c =
    λ is next still. absurd ((OnTrue_at c.if-is_overtaken.true c.is_overtaken.ensures.yes).other still)

pub begin_given-requires-clause-begins : goal.begin_given-requires-clause-begins
begin_given-requires-clause-begins g c = may_begin _ c.args.e _ _ _ c.in-Begin.is
    (OnFalse_at c.if-is_overtaken.false c.is_overtaken.ensures.no_) c.requires.prepared

pub begin_given-requires-clause-workable : goal.begin_given-requires-clause-workable
begin_given-requires-clause-workable g c = workable_of _ _ _ c.requires.workable

pub returns-in-Plain-clause-committed : goal.returns-in-Plain-clause-committed
returns-in-Plain-clause-committed g c = committed_as c.args.e _ _ _ _ _ _ _ _
    (OnFalse_at c.if-is_overtaken.false c.is_overtaken.ensures.no_) c.turn_plainly.ensures

pub returns-in-Plain-clause-unprepared : goal.returns-in-Plain-clause-unprepared
returns-in-Plain-clause-unprepared g c =
    λ is next still. absurd (plain_has_memory _ _ c.in-Plain.is c.requires.prepared is)

pub returns-clause-committed : goal.returns-clause-committed
returns-clause-committed g c = committed_as c.args.e _ _ _ _ _ _ _ _
    (OnFalse_at c.if-is_overtaken.false c.is_overtaken.ensures.no_) (c.begin_given.ensures.turned _)

pub returns-clause-unprepared : goal.returns-clause-unprepared
returns-clause-unprepared g c = λ is next still. c.begin_given.ensures.unprepared is next
