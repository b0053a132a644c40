use Rattle.std.proofs.Common.{◌≡◌, ◌-◌}
use Rattle.heat_value.specs.Meaning.{data_of}
use Rattle.hot_env.specs.Environments.{over}
use Rattle.hot_groups.specs.Plain.{made_from}
use Rattle.hot_groups.proofs.expanding.put_members.Given as goal

-- the members that are left go over what there is
abbrev pub invariant-loop-i : goal.invariant-loop-i
invariant-loop-i l =
    over l.fn.all (made_from l.group.key (data_of l.group.value) 0 l.count)
    ≡ over l.all (made_from l.group.key (data_of l.group.value) l.i (l.count - l.i))
