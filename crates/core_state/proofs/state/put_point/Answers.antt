use Rattle.std.proofs.Common.{sym}
use Rattle.core_state.proofs.PointPuts.{put_point-none, put_point-set}
use Rattle.core_state.proofs.state.put_point.Goals as goal

pub returns-in_default-clause-items : goal.returns-in_default-clause-items
returns-in_default-clause-items c =
    sym (put_point-none c.args.point c.args.graphs.now.items (rw (← c.find.ensures.place) c.in_default.is))

pub returns-in-Some-clause-items : goal.returns-in-Some-clause-items
returns-in-Some-clause-items c = put_point-set c.args.point c.args.graphs.now.items c.rewrite.new.self.items c.in-Some.place
    (rw (← c.find.ensures.place) c.in-Some.is) c.in-Some.ensures.within c.rewrite.ensures.items
