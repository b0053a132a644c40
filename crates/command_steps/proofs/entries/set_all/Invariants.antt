use Rattle.std.proofs.Common.{◌≡◌, map, take}
use Rattle.core_state.specs.declared.entry.RowWrite.TheVariants.{Set}
use Rattle.command_steps.proofs.entries.set_all.Given as goal

abbrev pub invariant-loop-row : goal.invariant-loop-row
invariant-loop-row l = l.writes ≡ map Set (take l.row-index l.rows)
