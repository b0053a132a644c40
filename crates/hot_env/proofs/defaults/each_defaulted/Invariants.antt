use Rattle.std.proofs.Common.{◌≡◌, take}
use Rattle.heat_value.specs.Meaning.{members_of}
use Rattle.hot_env.specs.Applied.{each_value, defaulted}
use Rattle.hot_env.proofs.defaults.each_defaulted.Given as goal

-- those of the first entries
abbrev pub invariant-loop-member : goal.invariant-loop-member
invariant-loop-member l = l.all ≡ each_value (defaulted l.defaults) (members_of (take l.member-index l.member-items))
