use Rattle.std.proofs.Common.{◌≡◌, drop, map}
use Rattle.heat_value.specs.Meaning.{members_of}
use Rattle.hot_functions.specs.Forms.{are_among}
use Rattle.hot_functions.proofs.argument.are_among.Given as goal

-- what is left decides
abbrev pub invariant-loop-member : goal.invariant-loop-member
invariant-loop-member l =
    are_among (map (λ n. n.now) l.known) (members_of l.members)
    ≡ are_among (map (λ n. n.now) l.known) (members_of (drop l.member-index l.members))
