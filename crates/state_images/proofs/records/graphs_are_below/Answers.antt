use Rattle.std.proofs.Common.{sym}
use Rattle.step_relation.specs.Numbered.{GraphBelow}
use Rattle.state_images.proofs.Listed.{all_more}
use Rattle.state_images.proofs.records.graphs_are_below.Goals as goal

pub loop-graph-preserved : goal.loop-graph-preserved
loop-graph-preserved c = all_more (GraphBelow c.args.next) c.args.graphs.now c.loop-graph.graph-index c.graph-item.result
    c.loop-graph-test.true (sym c.graph-item.is) (c.graph_is_below.ensures.0 c.if-not-graph_is_below.false) c.loop-graph.invariant
