use Rattle.std.proofs.Common.{lit<}
use Rattle.book_lock.proofs.Taking.{takes_for}
use Rattle.book_lock.proofs.steps.take.try_take.Goals as goal

pub load-requires : goal.load-requires
load-requires g c = (
  c.requires.here,
  rw c.requires.words (lit< tt),
  takes_for g.T.Chronicle.list g.T.Chronicle.origin c.args.board.now.shared.key.value _ _ c.args.ticket _ c.requires.waits,
)
