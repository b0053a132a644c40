use Rattle.std.proofs.Common.{◌≡◌, ◌++◌, length, All}
use Rattle.std.specs.List.{flat_map}
use Rattle.plan_codec.specs.Numbers.{spelled_number, IsWord}
use Rattle.plan_codec.proofs.lists.items_at.Given as goal

abbrev pub invariant-loop : goal.invariant-loop
invariant-loop g l = record {
  so : l.bytes ≡ spelled_number l.count ++ (flat_map g.T.Readable.spelled l.all.items ++ l.rest);
  word : IsWord l.count;
  each : All g.T.Readable.proper l.all.items;
  counted : length l.all.items ≡ l.counter;
}
