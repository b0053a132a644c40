-- Enough numbers are left, or the failure lasts.
use Rattle.std.proofs.lemmas.Bool.{OnTrue_at}
use Rattle.step_ends.proofs.SpareLemmas.{spare_lasts}
use Rattle.step_ends.proofs.ask.lasting.Goals as goal

pub returns-then-has_spare-clause-lasts : goal.returns-then-has_spare-clause-lasts
returns-then-has_spare-clause-lasts c = spare_lasts _ _ _ _ _ c.requires.call (OnTrue_at c.if-has_spare.true c.has_spare.ensures)
