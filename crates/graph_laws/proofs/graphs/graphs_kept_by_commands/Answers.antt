use Rattle.graph_laws.proofs.graphs.Commands.{graphs_laid}
use Rattle.graph_laws.proofs.graphs.graphs_kept_by_commands.Goals as goal

pub returns : goal.returns
returns c = graphs_laid
