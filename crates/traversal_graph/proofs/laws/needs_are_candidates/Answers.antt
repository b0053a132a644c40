use Rattle.traversal_graph.proofs.NeedMembers.{in_needs, to_needs}
use Rattle.traversal_graph.proofs.laws.needs_are_candidates.Goals as goal

pub returns : goal.returns
returns c = λ items up a b. (in_needs items a b, to_needs items a b up)
