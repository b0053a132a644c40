use Rattle.std.proofs.Common.{◌≡◌, drop}
use Rattle.heat_value.specs.Data.{no_members}
use Rattle.heat_value.specs.Meaning.{members_of}
use Rattle.hot_env.specs.Environments.{over}
use Rattle.hot_groups.specs.Plain.{all_meant}
use Rattle.hot_groups.proofs.expanding.all_meant.Given as goal

-- what is left goes over what there is
abbrev pub invariant-loop-member : goal.invariant-loop-member
invariant-loop-member l =
    over no_members (all_meant l.bound l.resources)
    ≡ over l.all (all_meant l.bound (members_of (drop l.member-index l.member-items)))
