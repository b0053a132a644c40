use Rattle.std.proofs.Common.{◌≡◌, ℕ, ◌<◌, get_or}
use Rattle.dep_graph.specs.Ranks.{rank_of}
use Rattle.dep_graph.proofs.least.any_has_rank.Given as goal

-- none of the first nodes has the rank
abbrev pub invariant-loop-node : goal.invariant-loop-node
invariant-loop-node l = (k : ℕ) → k < l.node-index → rank_of l.ranks (get_or l.nodes k 0) ≡ l.rank → ⊥
