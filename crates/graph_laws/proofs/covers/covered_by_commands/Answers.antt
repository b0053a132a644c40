use Rattle.graph_laws.proofs.covers.Commands.{covers_laid}
use Rattle.graph_laws.proofs.covers.covered_by_commands.Goals as goal

pub returns : goal.returns
returns c = covers_laid
