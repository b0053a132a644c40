use Rattle.std.proofs.Common.{◌≡◌, ◌-◌, ◌^◌, length, map, min, take}
use Rattle.std.specs.List.{flat_map}
use Rattle.core_state.specs.declared.change.Change.TheVariants.{PutPoint}
use Rattle.core_state.specs.declared.graph.Graph.{Graph}
use Rattle.snapshot_codec.proofs.counts.point_count.Given as goal

abbrev pub invariant-loop-graph : goal.invariant-loop-graph
invariant-loop-graph l = l.count ≡ min (length (flat_map (λ (g : Graph). map PutPoint g.points) (take l.graph-index l.graphs))) (2 ^ 64 - 1)
