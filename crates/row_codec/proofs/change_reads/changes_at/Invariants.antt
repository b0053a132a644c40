use Rattle.std.proofs.Common.{◌≡◌, ◌++◌, length, All}
use Rattle.std.specs.List.{flat_map}
use Rattle.plan_codec.specs.Numbers.{spelled_number, IsWord}
use Rattle.row_codec.specs.Changes.{spelled_change, IsProper}
use Rattle.row_codec.proofs.change_reads.changes_at.Given as goal

abbrev pub invariant-loop : goal.invariant-loop
invariant-loop l = record {
  so : l.bytes ≡ spelled_number l.count ++ (flat_map spelled_change l.all.items ++ l.rest);
  word : IsWord l.count;
  each : All IsProper l.all.items;
  counted : length l.all.items ≡ l.counter;
}
