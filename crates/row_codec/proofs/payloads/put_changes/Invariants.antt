use Rattle.std.proofs.Common.{◌≡◌, ◌++◌, All, take, length}
use Rattle.std.specs.List.{flat_map}
use Rattle.plan_codec.specs.Numbers.{spelled_number}
use Rattle.plan_codec.specs.Sheets.{behind}
use Rattle.row_codec.specs.Changes.{spelled_change}
use Rattle.row_codec.proofs.PayloadLemmas.{IsKept}
use Rattle.row_codec.proofs.payloads.put_changes.Given as goal

abbrev pub invariant-loop-ready : goal.invariant-loop-ready
invariant-loop-ready l = record {
  so : l.sheet ≡ behind l.fn.sheet (spelled_number (length l.changes) ++ flat_map spelled_change (take l.ready-index l.changes));
  each : All IsKept (take l.ready-index l.changes);
}
