-- The first that has its mark, or that none has.
use Rattle.std.proofs.Common.{refl, get_or, arith}
use Rattle.std.proofs.lemmas.Bool.{false≢true}
use Rattle.std.proofs.lemmas.List.Elements.{Contains-get_or}
use Rattle.dep_graph.proofs.MarkLemmas.{none_marked}
use Rattle.dep_graph.proofs.least.any_marked.Goals as goal

pub returns-then-has : goal.returns-then-has
returns-then-has c = (
  λ _. record {
    node = get_or c.args.nodes.now c.loop-node.node-index 0;
    in_nodes = Contains-get_or c.args.nodes.now c.loop-node.node-index 0 c.loop-node-test.true;
    marked = c.has.ensures.0 c.if-has.true;
  },
  λ h. refl,
)

pub returns : goal.returns
returns c = (
  λ h. absurd (false≢true h),
  λ h. absurd (none_marked c.args.nodes.now c.args.marks.now
      (λ k lt. c.loop-node.invariant k (omega (arith, lt, c.loop-node-test.false))) h.node h.in_nodes h.marked),
)
