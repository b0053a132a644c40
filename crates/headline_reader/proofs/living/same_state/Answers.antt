use Rattle.headline_reader.proofs.Same.{same-state}
use Rattle.headline_reader.proofs.living.same_state.Goals as goal

pub returns : goal.returns
returns c = same-state _ _ _ c.equals.ensures
