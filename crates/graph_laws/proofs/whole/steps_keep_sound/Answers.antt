use Rattle.graph_laws.proofs.whole.Whole.{steps_sound}
use Rattle.graph_laws.proofs.whole.steps_keep_sound.Goals as goal

pub returns : goal.returns
returns c = steps_sound
