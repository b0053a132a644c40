-- A line that was broken off, or done and then written.
use Rattle.std.proofs.Common.{ap, refl, length}
use Rattle.converge_call.proofs.Answering.{broken_answered, done_answered, seen_then}
use Rattle.converge_call.proofs.Lining.{goes_well, where_well}
use Rattle.converge_call.proofs.drive.answer.Goals as goal

pub returns-in-Err-clause-answered : goal.returns-in-Err-clause-answered
returns-in-Err-clause-answered g c =
    broken_answered _ _ _ _ _ _ _ _ _ c.do_line.result _ c.in-Err.exit c.do_line.ensures.done c.in-Err.is refl

pub returns-in-Ok-clause-answered : goal.returns-in-Ok-clause-answered
returns-in-Ok-clause-answered g c = done_answered _ _ _ _ _ _ _ _ _ _ c.do_line.result _ _
    (length c.entries-from.result.now) c.do_line.ensures.done c.in-Ok.is
    (goes_well _ _ c.do_line.ensures.unhalted c.in-Ok.is) c.do_line.ensures.carries.same.opening
    (ap length c.entries-from.ensures) c.write_from.ensures.written

pub returns-in-Ok-clause-unhalted : goal.returns-in-Ok-clause-unhalted
returns-in-Ok-clause-unhalted g c = where_well _ c.write_from.result
    (goes_well _ _ c.do_line.ensures.unhalted c.in-Ok.is)

pub write_from-requires-clause-seen : goal.write_from-requires-clause-seen
write_from-requires-clause-seen g c = seen_then _ _ _ _ _ _ _ _ (g.W.Sink.holds c.args.sink.now) c.do_line.result c.do_line.ensures.done _ _ _
    (length c.entries-from.result.now) c.do_line.ensures.carries.same.opening (ap length c.entries-from.ensures)
    c.requires.seen
