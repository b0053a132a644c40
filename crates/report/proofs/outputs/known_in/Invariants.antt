use Rattle.std.proofs.Common.{◌≡◌, ◌++◌, drop}
use Rattle.report.specs.Outputs.{known_in}
use Rattle.report.proofs.outputs.known_in.Given as goal

abbrev pub invariant-loop-row : goal.invariant-loop-row
invariant-loop-row l = l.known ++ known_in l.stack (drop l.row-index l.rows) ≡ known_in l.stack l.rows
