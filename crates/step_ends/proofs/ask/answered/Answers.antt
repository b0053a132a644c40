use Rattle.step_ends.proofs.Called.{begun_turn}
use Rattle.step_ends.proofs.ask.answered.Goals as goal

pub returns-in_ok-begun-in-Begun-clause-made : goal.returns-in_ok-begun-in-Begun-clause-made
returns-in_ok-begun-in-Begun-clause-made c =
    begun_turn _ _ _ _ _ _ c.requires.call c.in-Begun.is c.in_ok-begun-in-Begun.ensures
    c.in_ok-lasting-in-Begun.ensures.lasts
