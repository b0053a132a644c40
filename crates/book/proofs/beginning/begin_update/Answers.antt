use Rattle.book.proofs.Beginnings.{begin_made, begin_refused, not_plain}
use Rattle.book.proofs.beginning.begin_update.Goals as goal

pub begin-requires-clause-given : goal.begin-requires-clause-given
begin-requires-clause-given _ c = let it = c.prepare_now-prepared.ensures in not_plain it.work _ it.given

pub returns-clause-made : goal.returns-clause-made
returns-clause-made _ c = let it = c.prepare_now-prepared.ensures in
    begin_made c.args.s.now.state c.args.e it.work it.begins _ it.given c.begin.result c.begin.ensures.made

pub returns-clause-cause : goal.returns-clause-cause
returns-clause-cause _ c = let it = c.prepare_now-prepared.ensures in
    begin_refused c.args.s.now.state c.args.e it.work it.begins _ it.given c.begin.result c.begin.ensures.cause
