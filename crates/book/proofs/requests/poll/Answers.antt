use Rattle.book.proofs.Tolds.{poll_says}
use Rattle.book.proofs.requests.poll.Goals as goal

pub returns : goal.returns
returns g c = poll_says _ _ _ _ c.requires c.poll.ensures.not_yet c.poll.ensures.ready c.poll.ensures.broken
    c.poll.ensures.failed c.poll.ensures.memory
