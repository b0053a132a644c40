use Rattle.traversal_graph.proofs.Membership.{replaced_pairs}
use Rattle.traversal_graph.proofs.laws.replaced_are_candidates.Goals as goal

pub returns : goal.returns
returns c = replaced_pairs
