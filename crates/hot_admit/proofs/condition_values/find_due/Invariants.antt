use Rattle.std.proofs.Common.{◌≡◌}
use Rattle.heat_value.specs.Meaning.{members_of}
use Rattle.hot_admit.specs.Valuing.{AreFound, Grows}
use Rattle.hot_admit.proofs.condition_values.find_due.Given as goal

-- what was found so far is right, and there may be more of it
abbrev pub invariant-loop-try : goal.invariant-loop-try
invariant-loop-try l =
    AreFound l.params (members_of l.conds) l.values.items
    × Grows (members_of l.conds) l.initial.values.items l.values.items × (l.waiting ≡ l.initial.waiting)
