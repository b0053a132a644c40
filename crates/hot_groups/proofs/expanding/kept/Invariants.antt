use Rattle.std.proofs.Common.{◌≡◌, drop}
use Rattle.heat_value.specs.Data.{no_members}
use Rattle.heat_value.specs.Meaning.{members_of}
use Rattle.hot_env.specs.Environments.{over}
use Rattle.hot_groups.specs.Plain.{only, of_group}
use Rattle.hot_groups.proofs.expanding.kept.Given as goal

-- what is left goes over what there is
abbrev pub invariant-loop-part : goal.invariant-loop-part
invariant-loop-part l =
    over no_members (only of_group l.group) ≡ over l.kept (only of_group (members_of (drop l.part-index l.part-items)))
