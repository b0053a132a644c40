use Rattle.std.proofs.Common.{◌≡◌, drop}
use Rattle.heat_value.specs.Meaning.{members_of}
use Rattle.hot_tree.specs.Constraints.{asked_in}
use Rattle.hot_tree.proofs.constraint.first_asked.Given as goal

-- what is left decides
abbrev pub invariant-loop-member : goal.invariant-loop-member
invariant-loop-member l = asked_in l.fields ≡ asked_in (members_of (drop l.member-index l.member-items))
