use Rattle.book.proofs.QuietTurns.{made_quietly}
use Rattle.book.proofs.turning.make_quietly.Goals as goal

pub returns : goal.returns
returns g c = rw c.turn_for.ensures (made_quietly _ _ _ _ _ _ _ _ _ c.make_step.result c.make_step.ensures
    c.requires.honest)
