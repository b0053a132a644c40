-- A node after the other.
use Rattle.std.proofs.Common.{List, ap, arith, length}
use Rattle.traversal_graph.specs.declared.shape.Node.{Node}
use Rattle.driver.specs.Parts.{IsUnreadyIn}
use Rattle.driver.proofs.Ones.{below_all, below_more}
use Rattle.driver.proofs.nodes.unready_in.Goals as goal

pub loop-node-preserved : goal.loop-node-preserved
loop-node-preserved c = (
  below_more (IsUnreadyIn c.args.graph.now) c.loop-node.node c.loop-node.count c.unready_one-count.result
      c.loop-node.invariant.0
      c.unready_one-count.ensures.exact,
  (let a = c.loop-node.invariant.1 in let b = c.unready_one-count.ensures.bound in omega (arith, a, b)),
)

pub returns-clause-exact : goal.returns-clause-exact
returns-clause-exact c = below_all
    (IsUnreadyIn c.args.graph.now) c.loop-node.node c.loop-node.count c.loop-node.invariant.0
    (λ i k. let lt = k.within in let end = c.loop-node-test.false in
    let long = ap (λ (all : List Node). length all) c.as_slice-nodes.ensures in omega (arith, lt, end, long))
