use Rattle.hot_groups.proofs.Numbered.{names_next}
use Rattle.hot_groups.proofs.expanding.names_for.Goals as goal

pub loop-i-preserved : goal.loop-i-preserved
loop-i-preserved c =
    rw (c.in_ok-push.ensures.ok, c.loop-i.invariant, c.in_ok-member_name.ensures) (names_next c.args.group.now c.loop-i.i)
