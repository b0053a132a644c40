use Rattle.traversal_graph.proofs.KeptLemmas.{plan_kept}
use Rattle.traversal_graph.proofs.laws.plans_keep_edges.Goals as goal

pub returns : goal.returns
returns c = plan_kept
