use Rattle.std.proofs.Common.{◌≡◌, ◌++◌, drop, string_bytes}
use Rattle.report.specs.Outputs.{joined}
use Rattle.report.proofs.outputs.joined.Given as goal

abbrev pub invariant-loop-line : goal.invariant-loop-line
invariant-loop-line l = string_bytes l.text ++ joined (drop l.line-index l.lines) ≡ joined l.lines
