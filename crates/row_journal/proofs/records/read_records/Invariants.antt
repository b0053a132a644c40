use Rattle.std.proofs.Common.{◌≡◌, ◌++◌, length, All}
use Rattle.row_journal.specs.Forms.{spelled, IsSized}
use Rattle.row_journal.proofs.records.read_records.Given as goal

abbrev pub invariant-loop-behind : goal.invariant-loop-behind
invariant-loop-behind l = record {
  parts : l.bytes ≡ spelled l.version 1 l.payloads.items ++ l.rest;
  sized : All IsSized l.payloads.items;
}

abbrev pub decreases-loop-behind : goal.decreases-loop-behind
decreases-loop-behind l = length l.rest
