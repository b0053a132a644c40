use Rattle.traversal_graph.proofs.NeedMembers.{in_rows, to_rows}
use Rattle.traversal_graph.proofs.laws.rows_are_candidates.Goals as goal

pub returns : goal.returns
returns c = λ items rows a b. (in_rows items rows a b, λ h. to_rows items rows a b h.0 h.1 h.2)
