use Rattle.std.proofs.Common.{◌≡◌, ◌++◌, map, take}
use Rattle.state_images.proofs.Written.{graph_change}
use Rattle.state_images.proofs.writing.add_graphs.Given as goal

abbrev pub invariant-loop-graph : goal.invariant-loop-graph
invariant-loop-graph l = l.changes ≡ l.fn.changes ++ map graph_change (take l.graph-index l.graphs)
