use Rattle.hot_tree.specs.PartEntries.{IsParam}
use Rattle.hot_tree.proofs.Each.{each_more}
use Rattle.hot_tree.proofs.param.params_of.Goals as goal

pub loop-member-preserved : goal.loop-member-preserved
loop-member-preserved c =
    rw c.in_ok-push.ensures.ok (each_more IsParam _ _ c.member-item.result _ _ c.loop-member-test.true c.member-item.is
    c.loop-member.invariant c.in_ok-param_of.ensures)
