use Rattle.hot_groups.specs.Plain.{section_meant}
use Rattle.hot_env.proofs.Mapped.{each_more}
use Rattle.hot_groups.proofs.meaning.sections_meant.Goals as goal

pub loop-member-preserved : goal.loop-member-preserved
loop-member-preserved c =
    rw (c.in_ok-put.ensures.ok, c.in_ok-copy.ensures, c.loop-member.invariant) (each_more
    (section_meant c.args.bound.now c.args.groups.now)
    c.as_slice-member-items.result.now c.loop-member.member-index c.member-item.result _
    (rw c.as_slice-member-items.ensures.members c.as_slice-member-items.ensures.rising) c.loop-member-test.true
    c.member-item.is c.in_ok-section_meant.ensures)
