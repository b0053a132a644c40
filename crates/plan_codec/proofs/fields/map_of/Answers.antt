use Rattle.std.proofs.Common.{arith}
use Rattle.plan_codec.proofs.RisingMaps.{all_put}
use Rattle.plan_codec.proofs.fields.map_of.Goals as goal

pub returns : goal.returns
returns c =
    all_put c.loop-member.props c.loop-member.member-iterator.rest.items c.args.members.items
    (omega (arith, c.in-None.ensures.steps.0, c.loop-member.member-iterator.rest.ok))
    c.loop-member.invariant c.requires
