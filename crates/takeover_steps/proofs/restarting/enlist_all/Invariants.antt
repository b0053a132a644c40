use Rattle.std.proofs.Common.{◌≡◌, ◌++◌, ◌+◌, ◌-◌, map}
use Rattle.core_state.specs.declared.change.Change.TheVariants.{Enlist}
use Rattle.step_relation.specs.Steps.{engines_from}
use Rattle.takeover_steps.proofs.restarting.enlist_all.Given as goal

abbrev pub invariant-loop-i : goal.invariant-loop-i
invariant-loop-i l =
    l.changes ++ map Enlist (engines_from (l.first + l.i) (l.fn.count - l.i))
    ≡ l.fn.changes ++ map Enlist (engines_from l.first l.fn.count)
