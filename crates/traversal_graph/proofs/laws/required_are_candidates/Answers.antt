use Rattle.traversal_graph.proofs.Membership.{required_pairs}
use Rattle.traversal_graph.proofs.laws.required_are_candidates.Goals as goal

pub returns : goal.returns
returns c = required_pairs
