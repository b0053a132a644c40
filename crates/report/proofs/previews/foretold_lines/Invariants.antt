use Rattle.std.proofs.Common.{◌≡◌, ◌++◌, drop, string_bytes}
use Rattle.report.specs.Previews.{foretold_lines}
use Rattle.report.proofs.previews.foretold_lines.Given as goal

abbrev pub invariant-loop-item : goal.invariant-loop-item
invariant-loop-item l =
    string_bytes l.text ++ foretold_lines l.stack (drop l.item-index l.items) ≡ foretold_lines l.stack l.items
