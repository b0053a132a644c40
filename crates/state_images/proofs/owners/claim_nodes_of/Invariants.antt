use Rattle.std.proofs.Common.{◌≡◌, ◌++◌, map, take}
use Rattle.state_images.specs.Claims.{node_claim}
use Rattle.state_images.proofs.owners.claim_nodes_of.Given as goal

abbrev pub invariant-loop-node : goal.invariant-loop-node
invariant-loop-node l = l.claims.items ≡ l.fn.claims.items ++ map (node_claim l.graph.stack) (take l.node-index l.node-items)
