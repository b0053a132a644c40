use Rattle.std.proofs.Common.{◌≡◌, take}
use Rattle.std.proofs.Common.{codes, bytes_eq, if◌then◌else◌}
use Rattle.hot_groups.specs.References.{rewritten}
use Rattle.heat_value.specs.Meaning.{members_of}
use Rattle.hot_env.specs.Applied.{each_value}
use Rattle.hot_groups.proofs.meaning.value_rewritten.Given as goal

-- those of the first
abbrev pub invariant-loop-member : goal.invariant-loop-member
invariant-loop-member l =
    l.all ≡ each_value (λ k d. if bytes_eq k (codes "value") then rewritten l.groups d else d) (members_of (take l.member-index l.member-items))
