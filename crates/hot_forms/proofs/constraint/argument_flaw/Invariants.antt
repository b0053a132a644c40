use Rattle.std.proofs.Common.{◌≡◌, drop}
use Rattle.heat_value.specs.Meaning.{members_of}
use Rattle.hot_forms.specs.Constraints.{constraint_flaw}
use Rattle.hot_forms.proofs.constraint.argument_flaw.Given as goal

-- what is left decides
abbrev pub invariant-loop-member : goal.invariant-loop-member
invariant-loop-member l =
    constraint_flaw l.sort l.fields ≡ constraint_flaw l.sort (members_of (drop l.member-index l.member-items))
