-- With what a rollback could need, and without.
use Rattle.std.proofs.Common.{refl}
use Rattle.driver.proofs.Stacked.{closed_work, open_work, same_may}
use Rattle.driver.proofs.stacks.stack_work.Goals as goal

pub returns-in-Some-clause-exact : goal.returns-in-Some-clause-exact
returns-in-Some-clause-exact c = open_work c.args.s.now.state c.args.stack.now c.requires c.unready_nodes-unready.result
    c.items_back.result c.far_nodes.result
    (same_may c.args.s.now.state c.args.stack.now c.in-Some.field-0.now c.requires c.in-Some.ensures.some)
    c.unready_nodes-unready.ensures.exact c.items_back.ensures.exact c.far_nodes.ensures.exact

pub returns-in-None-clause-exact : goal.returns-in-None-clause-exact
returns-in-None-clause-exact c =
    closed_work c.args.s.now.state c.args.stack.now c.requires c.unready_nodes-unready.result
    (c.in-None.ensures.none refl) c.unready_nodes-unready.ensures.exact
