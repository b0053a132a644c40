use Rattle.provider.proofs.States.{fold-keeps}
use Rattle.provider.proofs.laws.folds_keep_the_state.Goals as goal

pub returns : goal.returns
returns c = fold-keeps
