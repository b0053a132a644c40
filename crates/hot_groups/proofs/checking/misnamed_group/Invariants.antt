use Rattle.std.proofs.Common.{◌≡◌, drop}
use Rattle.heat_value.specs.Meaning.{members_of}
use Rattle.hot_groups.specs.Checks.{misnamed_group}
use Rattle.hot_groups.proofs.checking.misnamed_group.Given as goal

-- what is left decides
abbrev pub invariant-loop-member : goal.invariant-loop-member
invariant-loop-member l =
    misnamed_group l.bound l.resources l.resources
    ≡ misnamed_group l.bound l.resources (members_of (drop l.member-index l.member-items))
