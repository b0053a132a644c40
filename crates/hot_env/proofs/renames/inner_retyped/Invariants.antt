use Rattle.std.proofs.Common.{◌≡◌, take, codes}
use Rattle.heat_value.specs.Meaning.{members_of}
use Rattle.hot_env.specs.Applied.{under_key, within, retyped_in}
use Rattle.hot_env.proofs.renames.inner_retyped.Given as goal

-- those of the first members
abbrev pub invariant-loop-member : goal.invariant-loop-member
invariant-loop-member l =
    l.all ≡ under_key (codes "resource_def") (within (retyped_in l.types)) (members_of (take l.member-index l.member-items))
