use Rattle.std.proofs.Common.{◌≡◌, take}
use Rattle.heat_value.specs.Meaning.{members_of}
use Rattle.hot_env.specs.Applied.{each_value, section_applied}
use Rattle.hot_env.proofs.applying.applied.Given as goal

-- those of the first entries
abbrev pub invariant-loop-member : goal.invariant-loop-member
invariant-loop-member l = l.all ≡ each_value (section_applied l.env) (members_of (take l.member-index l.member-items))
