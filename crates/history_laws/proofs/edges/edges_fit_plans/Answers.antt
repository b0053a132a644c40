use Rattle.history_laws.proofs.edges.Ranks.{edges_fit}
use Rattle.history_laws.proofs.edges.edges_fit_plans.Goals as goal

pub returns : goal.returns
returns c = edges_fit
