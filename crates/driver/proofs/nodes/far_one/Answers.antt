-- An update node with a target, by its row.
use Rattle.driver.proofs.Stacked.{far_target}
use Rattle.driver.proofs.nodes.far_one.Goals as goal

pub returns-in-Some-clause-exact : goal.returns-in-Some-clause-exact
returns-in-Some-clause-exact c =
    far_target c.args.s.now.state c.args.stack.now c.args.node.now _ _ _ _ c.in-U.is c.in-Some.ensures.some
    c.far_row.ensures.exact
