-- Those of its graph.
use Rattle.std.proofs.Common.{sym}
use Rattle.driver.proofs.Stacked.{nodes_here}
use Rattle.driver.proofs.stacks.unready_nodes.Goals as goal

pub returns-in-Some-clause-exact : goal.returns-in-Some-clause-exact
returns-in-Some-clause-exact c =
    nodes_here c.args.s.now.state c.args.stack.now c.requires c.in-Some.graph.now c.unready_in.result
    (sym (rw c.in-Some.is at c.graph.ensures)) c.unready_in.ensures.exact
