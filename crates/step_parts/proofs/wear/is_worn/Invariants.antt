use Rattle.std.proofs.Common.{ℕ, ◌<◌, get_or}
use Rattle.core_state.specs.declared.change.Change.{Change}
use Rattle.step_relation.specs.Turns.{Overflows}
use Rattle.step_parts.proofs.wear.is_worn.Given as goal

abbrev pub invariant-loop-change : goal.invariant-loop-change
invariant-loop-change l = (k : ℕ) (d : Change) → k < l.change-index → ¬ Overflows (get_or l.changes k d)
