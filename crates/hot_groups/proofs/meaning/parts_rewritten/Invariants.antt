use Rattle.std.proofs.Common.{◌≡◌, take}
use Rattle.hot_groups.specs.Plain.{part_rewritten}
use Rattle.heat_value.specs.Meaning.{members_of}
use Rattle.hot_env.specs.Applied.{each_value}
use Rattle.hot_groups.proofs.meaning.parts_rewritten.Given as goal

-- those of the first
abbrev pub invariant-loop-member : goal.invariant-loop-member
invariant-loop-member l =
    l.all ≡ each_value (part_rewritten l.groups) (members_of (take l.member-index l.member-items))
