use Rattle.std.proofs.Common.{map, take}
use Rattle.std.specs.List.{flat_map}
use Rattle.core_state.specs.declared.change.Change.TheVariants.{PutPoint}
use Rattle.core_state.specs.declared.graph.Graph.{Graph}
use Rattle.snapshot_codec.specs.Puts.{HasPut}
use Rattle.snapshot_codec.proofs.puts.put_points.Given as goal

abbrev pub invariant-loop-graph : goal.invariant-loop-graph
invariant-loop-graph l = HasPut (flat_map (λ (g : Graph). map PutPoint g.points) (take l.graph-index l.graphs)) l.fn.sheet l.sheet
