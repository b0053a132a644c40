use Rattle.std.proofs.Common.{length}
use Rattle.dep_graph.specs.Edges.{HasEdge}
use Rattle.dep_graph.proofs.RankCountLemmas.{left_to_do, zeros}
use Rattle.dep_graph.proofs.RankLemmas.{IsRanking}
use Rattle.dep_graph.proofs.ranking.rank_reaching.Given as goal

abbrev pub invariant-loop-node : goal.invariant-loop-node
invariant-loop-node l = IsRanking (HasEdge l.graph) (length l.graph) l.rank l.ranks.items l.pending.items

abbrev pub decreases-loop-node : goal.decreases-loop-node
decreases-loop-node l = left_to_do (length l.graph) (zeros l.ranks.items) (length l.pending.items)
