use Rattle.book.proofs.Tolds.{look_says}
use Rattle.book.proofs.requests.look.Goals as goal

pub returns : goal.returns
returns g c = look_says _ _ _ _ c.gone.ensures.gone c.gone.ensures.not_yet c.gone.ensures.failed c.gone.ensures.memory
