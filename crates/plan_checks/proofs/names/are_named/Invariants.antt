use Rattle.std.proofs.Common.{ℕ, ◌<◌, List, Contains, get_or}
use Rattle.heat_plan.specs.Plans.{names_of}
use Rattle.plan_checks.proofs.names.are_named.Given as goal

-- the names so far are items'
abbrev pub invariant-loop-name : goal.invariant-loop-name
invariant-loop-name l = (k : ℕ) (d : List ℕ) → k < l.name-index → Contains (names_of l.items) (get_or l.names k d)
