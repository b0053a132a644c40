-- The first node on a loop is the least, and each node on one is below the size.
use Rattle.std.proofs.Common.{◌∙◌, sym, below_more, arith}
use Rattle.std.proofs.lemmas.Bool.{false≢true}
use Rattle.dep_graph.specs.Edges.{HasEdge}
use Rattle.dep_graph.specs.Loops.{IsOnLoop}
use Rattle.dep_graph.proofs.LoopLemmas.{first_loop, none_loop}
use Rattle.dep_graph.proofs.least.least_on_loop.Goals as goal

pub returns-then-branch : goal.returns-then-branch
returns-then-branch c = (
  omega (arith, c.size-node-end.ensures.size, c.loop-node-test.true),
  first_loop c.args.graph.now c.loop-node.node (c.in_ok-is_on_loop.ensures.0 c.if-branch.true) c.loop-node.invariant,
)

pub loop-node-preserved : goal.loop-node-preserved
loop-node-preserved c =
    below_more (λ k. IsOnLoop (HasEdge c.args.graph.now) k → ⊥) c.loop-node.node c.loop-node.invariant
    (λ h. false≢true (sym c.if-branch.false ∙ c.in_ok-is_on_loop.ensures.1 h))

pub returns : goal.returns
returns c =
    none_loop c.args.graph.now c.loop-node.node c.size-node-end.ensures.joins
    (omega (arith, c.size-node-end.ensures.size, c.loop-node-test.false)) c.loop-node.invariant
