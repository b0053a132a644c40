use Rattle.std.proofs.Common.{lit<}
use Rattle.book_lock.proofs.Raising.{raises_for}
use Rattle.book_lock.proofs.steps.raise.raise.Goals as goal

pub fetch_add-requires : goal.fetch_add-requires
fetch_add-requires g c = (
  c.requires.here,
  rw c.requires.words (lit< tt),
  raises_for g.T.Chronicle.list g.T.Chronicle.origin c.args.board.now.shared.key.value _ _ _ c.requires.holds,
)
