use Rattle.std.proofs.Common.{◌≡◌, ◌++◌, drop, string_bytes}
use Rattle.report.specs.Previews.{going_lines}
use Rattle.report.proofs.previews.going_lines.Given as goal

abbrev pub invariant-loop-row : goal.invariant-loop-row
invariant-loop-row l =
    string_bytes l.text ++ going_lines l.stack (drop l.row-index l.gone) ≡ going_lines l.stack l.gone
