use Rattle.hot_eval.specs.Repeats.{choice_of}
use Rattle.hot_eval.proofs.Literal.{key_within}
use Rattle.hot_eval.proofs.Places.{members_at}
use Rattle.hot_eval.proofs.fillings.literal.member_becoming.Goals as goal

pub key_filled-requires-clause-made : goal.key_filled-requires-clause-made
key_filled-requires-clause-made c =
    key_within (choice_of c.args.choice.now) _ _ _ _
    (members_at c.args.members.now c.loop-member.member-index c.member-item.result c.loop-member-test.true c.member-item.is)
    c.loop-member.invariant.1
