use Rattle.graph_laws.proofs.whole.Whole.{empty_openings}
use Rattle.graph_laws.proofs.whole.an_empty_opening_is_sound.Goals as goal

pub returns : goal.returns
returns c = empty_openings
