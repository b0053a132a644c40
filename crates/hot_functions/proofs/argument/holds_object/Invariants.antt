use Rattle.std.proofs.Common.{◌≡◌, drop}
use Rattle.heat_value.specs.Meaning.{members_of}
use Rattle.hot_functions.specs.Forms.{holds_object}
use Rattle.hot_functions.proofs.argument.holds_object.Given as goal

-- what is left decides
abbrev pub invariant-loop-member : goal.invariant-loop-member
invariant-loop-member l =
    holds_object l.key (members_of l.members) ≡ holds_object l.key (members_of (drop l.member-index l.members))
