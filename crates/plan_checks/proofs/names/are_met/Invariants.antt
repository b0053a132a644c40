use Rattle.std.proofs.Common.{ℕ, ◌<◌, All, Contains, get_or}
use Rattle.heat_plan.specs.Plans.{names_of}
use Rattle.heat_plan.specs.declared.item.Item.{Item}
use Rattle.plan_checks.proofs.names.are_met.Given as goal

-- the needs of the items so far are met
abbrev pub invariant-loop-item : goal.invariant-loop-item
invariant-loop-item l = (k : ℕ) (d : Item) → k < l.item-index → All (Contains (names_of l.items)) (get_or l.items k d).needs
