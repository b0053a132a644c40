use Rattle.heat_value.specs.Meaning.{data_of}
use Rattle.hot_eval.proofs.Places.{members_at}
use Rattle.hot_eval.proofs.Renames.{same_renamed, next_renamed}
use Rattle.hot_eval.proofs.maps.renamed.Goals as goal

pub returns-then-not-branch : goal.returns-then-not-branch
returns-then-not-branch c =
    let stood = rw c.if-not-branch.true at c.in_ok-put_new.ensures in
    same_renamed (c.args.names.now, c.args.values.now) c.loop-member.renamed _ _ c.member-item.result.key c.in_ok-key.key
    (data_of c.member-item.result.value) _
    (members_at c.args.members.now c.loop-member.member-index c.member-item.result c.loop-member-test.true c.member-item.is)
    c.in_ok-key.ensures stood c.loop-member.invariant

pub loop-member-preserved : goal.loop-member-preserved
loop-member-preserved c =
    let put = rw c.if-not-branch.false at c.in_ok-put_new.ensures in
    next_renamed (c.args.names.now, c.args.values.now) c.loop-member.renamed c.put_new.new.self _ _ c.member-item.result.key
    c.in_ok-key.key (data_of c.member-item.result.value) (data_of c.in_ok-value.value) _
    (members_at c.args.members.now c.loop-member.member-index c.member-item.result c.loop-member-test.true c.member-item.is)
    c.in_ok-key.ensures c.in_ok-value.ensures put.0 put.1 c.loop-member.invariant
