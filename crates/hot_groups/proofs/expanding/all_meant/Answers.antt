use Rattle.heat_value.specs.Meaning.{data_of}
use Rattle.hot_groups.proofs.Meant.{meant_more}
use Rattle.hot_groups.proofs.Places.{members_at}
use Rattle.hot_groups.proofs.expanding.all_meant.Goals as goal

pub loop-member-preserved : goal.loop-member-preserved
loop-member-preserved c =
    meant_more c.args.bound.now c.loop-member.all c.put_meant.new.all c.member-item.result.key
    (data_of c.member-item.result.value) _ _ _
    (members_at c.as_slice-member-items.result.now c.loop-member.member-index c.member-item.result c.loop-member-test.true
    c.member-item.is) c.in_ok-put_meant.ensures c.loop-member.invariant
