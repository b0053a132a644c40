use Rattle.std.proofs.Common.{◌≡◌, ◌++◌, drop, string_bytes}
use Rattle.report.specs.Rows.{shown_lines}
use Rattle.report.proofs.rows.shown_lines.Given as goal

abbrev pub invariant-loop-row : goal.invariant-loop-row
invariant-loop-row l = string_bytes l.text ++ shown_lines l.stack (drop l.row-index l.rows) ≡ shown_lines l.stack l.rows
