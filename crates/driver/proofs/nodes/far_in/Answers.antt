-- A node after the other.
use Rattle.std.proofs.Common.{arith, ap, length, ℕ, subst, sym}
use Rattle.bound_laws.specs.Rolls.{RollFar}
use Rattle.driver.proofs.Ones.{below_all, below_more}
use Rattle.driver.proofs.Stacked.{far_here, far_within}
use Rattle.driver.proofs.nodes.far_in.Goals as goal

pub loop-node-preserved : goal.loop-node-preserved
loop-node-preserved c = (
  below_more (λ (i : ℕ). RollFar c.args.s.now.state (c.args.stack.now.name, i)) c.loop-node.node-index c.loop-node.count
      c.far_one-count.result
      c.loop-node.invariant.0
      (far_here c.args.s.now.state c.args.stack.now c.args.graph.now c.requires.its c.loop-node.node-index
      c.far_one-count.result
      c.node-item.result c.requires.may c.as_slice-node-items.result.now c.as_slice-node-items.ensures
      c.loop-node-test.true c.node-item.is
      c.far_one-count.ensures.exact),
  (let a = c.loop-node.invariant.1 in let b = c.far_one-count.ensures.bound in omega (arith, a, b)),
)

pub returns-clause-exact : goal.returns-clause-exact
returns-clause-exact c = below_all
    (λ (i : ℕ). RollFar c.args.s.now.state (c.args.stack.now.name, i)) c.loop-node.node-index c.loop-node.count
    c.loop-node.invariant.0
    (far_within c.args.s.now.state c.args.stack.now c.args.graph.now c.requires.its c.loop-node.node-index
    c.as_slice-node-items.result.now c.as_slice-node-items.ensures c.loop-node-test.false)
