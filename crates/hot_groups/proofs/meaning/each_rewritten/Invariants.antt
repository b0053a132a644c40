use Rattle.std.proofs.Common.{◌≡◌, take}
use Rattle.hot_groups.specs.Plain.{resource_rewritten}
use Rattle.heat_value.specs.Meaning.{members_of}
use Rattle.hot_env.specs.Applied.{each_value}
use Rattle.hot_groups.proofs.meaning.each_rewritten.Given as goal

-- those of the first
abbrev pub invariant-loop-member : goal.invariant-loop-member
invariant-loop-member l =
    l.all ≡ each_value (λ k d. resource_rewritten l.groups d) (members_of (take l.member-index l.member-items))
