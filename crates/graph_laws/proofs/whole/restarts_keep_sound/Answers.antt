use Rattle.graph_laws.proofs.whole.Whole.{restarts_sound}
use Rattle.graph_laws.proofs.whole.restarts_keep_sound.Goals as goal

pub returns : goal.returns
returns c = restarts_sound
