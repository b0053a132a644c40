use Rattle.std.proofs.Common.{◌≡◌, ◌-◌, ◌^◌, ℕ, drop}
use Rattle.std.specs.Prelude.{min}
use Rattle.heat_value.specs.Meaning.{members_of}
use Rattle.hot_groups.specs.Checks.{unfit_group}
use Rattle.hot_groups.proofs.checking.unfit_group.Given as goal

-- what is left decides, with what the groups so far come to
abbrev pub invariant-loop-member : goal.invariant-loop-member
invariant-loop-member l =
    (t : ℕ) × (l.total ≡ min t (2 ^ 64 - 1))
    × (unfit_group l.bound 0 l.resources ≡ unfit_group l.bound t (members_of (drop l.member-index l.member-items)))
