use Rattle.std.proofs.Common.{map}
use Rattle.std.specs.List.{flat_map}
use Rattle.core_state.specs.declared.change.Change.TheVariants.{PutGraph, PutPast, PutPoint, PutStack}
use Rattle.core_state.specs.declared.graph.Graph.{Graph}
use Rattle.snapshot_codec.specs.Puts.{HasPut}
use Rattle.snapshot_codec.proofs.Putting.{graphs_aligned, then_put}
use Rattle.snapshot_codec.proofs.puts.put_stacks.Goals as goal

pub put_points-requires : goal.put_points-requires
put_points-requires c = graphs_aligned c.args.s.now.state c.graphs-2.result.now c.requires c.graphs-2.ensures

pub returns : goal.returns
returns c =
    let s = c.args.s.now.state in
    let stacks : HasPut (map PutStack s.stacks) c.args.sheet.now c.put_each.new.sheet =
    rw (← c.stacks.ensures) c.put_each.ensures in
    let graphs : HasPut (map (λ (g : Graph). PutGraph g.stack g.graph) s.graphs) c.put_each.new.sheet c.put_each-2.new.sheet =
    rw (← c.graphs.ensures) c.put_each-2.ensures in
    let points : HasPut (flat_map (λ (g : Graph). map PutPoint g.points) s.graphs) c.put_each-2.new.sheet c.put_points.new.sheet =
    rw (← c.graphs-2.ensures) c.put_points.ensures in
    let pasts : HasPut (map PutPast s.pasts) c.put_points.new.sheet c.put_each-3.new.sheet =
    rw (← c.pasts.ensures) c.put_each-3.ensures in
    then_put stacks (then_put graphs (then_put points pasts))
