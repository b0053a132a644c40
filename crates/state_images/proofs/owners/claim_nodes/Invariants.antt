use Rattle.std.proofs.Common.{◌≡◌, ◌++◌, drop}
use Rattle.std.specs.Prelude.{flat_map}
use Rattle.state_images.specs.Claims.{graph_claims}
use Rattle.state_images.proofs.owners.claim_nodes.Given as goal

-- what is left completes the whole
abbrev pub invariant-loop-graph : goal.invariant-loop-graph
invariant-loop-graph l = l.claims.items ++ flat_map graph_claims (drop l.graph-index l.graphs)
    ≡ l.fn.claims.items ++ flat_map graph_claims l.graphs
