use Rattle.std.proofs.Common.{◌≡◌, ◌++◌, drop, map}
use Rattle.std.specs.Prelude.{flat_map}
use Rattle.core_state.specs.declared.change.Change.TheVariants.{PutPoint}
use Rattle.core_state.specs.declared.graph.Graph.{Graph}
use Rattle.state_images.proofs.writing.add_points.Given as goal

-- what is left completes the whole
abbrev pub invariant-loop-graph : goal.invariant-loop-graph
invariant-loop-graph l = l.changes ++ flat_map (λ (g : Graph). map PutPoint g.points) (drop l.graph-index l.graphs)
    ≡ l.fn.changes ++ flat_map (λ (g : Graph). map PutPoint g.points) l.graphs
