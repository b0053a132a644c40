-- Each turn adds one edge more.
use Rattle.std.proofs.Common.{◌∙◌}
use Rattle.traversal_graph.proofs.ClosingLemmas.{edges-none, edges-more, edges-all}
use Rattle.traversal_graph.proofs.closing.graph_of.Goals as goal

pub loop-before-init : goal.loop-before-init
loop-before-init c = record {
  size = c.in_ok-graph.ensures.bare.size_is;
  edges = edges-none _ _ c.in_ok-graph.ensures.bare;
}

pub loop-before-preserved : goal.loop-before-preserved
loop-before-preserved c = record {
  size = c.in_ok-add_edge.ensures.ok.same ∙ c.loop-before.invariant.size;
  edges = edges-more _ _ _ _ c.loop-before-test.true c.loop-before.invariant.edges c.in_ok-add_edge.ensures.ok;
}

pub returns : goal.returns
returns c = edges-all _ _ _ c.loop-before-test.false c.loop-before.invariant.edges
