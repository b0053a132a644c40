use Rattle.std.proofs.Common.{◌≡◌, drop}
use Rattle.heat_value.specs.Meaning.{members_of}
use Rattle.hot_forms.specs.Constraints.{has_no_more}
use Rattle.hot_forms.proofs.constraint.has_no_more.Given as goal

-- what is left decides
abbrev pub invariant-loop-member : goal.invariant-loop-member
invariant-loop-member l = has_no_more l.fields ≡ has_no_more (members_of (drop l.member-index l.member-items))
