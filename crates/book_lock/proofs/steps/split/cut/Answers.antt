use Rattle.std.proofs.Common.{lit<}
use Rattle.book_lock.proofs.Splitting.{splits_for}
use Rattle.book_lock.proofs.steps.split.cut.Goals as goal

pub split_seat-requires : goal.split_seat-requires
split_seat-requires g c =
    (c.requires.here, rw c.requires.words (lit< tt), splits_for g.T.Chronicle.list g.T.Chronicle.origin c.args.board.now.shared.key.value _ _ c.requires.live)
