use Rattle.hot_groups.specs.Plain.{resource_rewritten}
use Rattle.hot_env.proofs.Mapped.{each_more}
use Rattle.hot_groups.proofs.meaning.each_rewritten.Goals as goal

pub loop-member-preserved : goal.loop-member-preserved
loop-member-preserved c =
    rw (c.in_ok-put.ensures.ok, c.in_ok-copy.ensures, c.loop-member.invariant) (each_more
    (λ k d. resource_rewritten c.args.groups.now d)
    c.as_slice-member-items.result.now c.loop-member.member-index c.member-item.result _
    (rw c.as_slice-member-items.ensures.members c.as_slice-member-items.ensures.rising) c.loop-member-test.true
    c.member-item.is c.in_ok-resource_rewritten.ensures)
