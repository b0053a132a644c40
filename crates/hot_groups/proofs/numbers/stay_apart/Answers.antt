use Rattle.std.proofs.Common.{◌∙◌, sym}
use Rattle.heat_value.specs.Meaning.{data_of}
use Rattle.hot_strings.specs.Answers.{with_values}
use Rattle.hot_groups.proofs.Apart.{met_here, unmet_here}
use Rattle.hot_groups.proofs.Places.{members_at}
use Rattle.hot_groups.proofs.numbers.stay_apart.Goals as goal

pub returns-then-is_some : goal.returns-then-is_some
returns-then-is_some c =
    met_here (with_values c.args.numbering.now) c.member-item.result.key c.in_ok-key.key (data_of c.member-item.result.value)
    c.loop-member.keys _ _ c.get.result _
    (members_at c.args.members.now c.loop-member.member-index c.member-item.result c.loop-member-test.true c.member-item.is)
    c.in_ok-key.ensures c.get.ensures c.loop-member.invariant (sym c.is_some.ensures ∙ c.if-is_some.true)

pub loop-member-preserved : goal.loop-member-preserved
loop-member-preserved c =
    unmet_here (with_values c.args.numbering.now) c.member-item.result.key c.in_ok-key.key (data_of c.member-item.result.value)
    c.loop-member.keys _ _ c.get.result _
    (members_at c.args.members.now c.loop-member.member-index c.member-item.result c.loop-member-test.true c.member-item.is)
    c.in_ok-key.ensures c.get.ensures c.loop-member.invariant c.put.new.self
    (sym c.is_some.ensures ∙ c.if-is_some.false) c.in_ok-put.ensures.ok
