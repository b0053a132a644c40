use Rattle.graph_laws.proofs.covers.Cases.{taken_is_covered}
use Rattle.graph_laws.proofs.covers.taken_is_covered.Goals as goal

pub returns : goal.returns
returns c = taken_is_covered
