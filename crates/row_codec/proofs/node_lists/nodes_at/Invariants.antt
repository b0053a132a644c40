use Rattle.std.proofs.Common.{◌≡◌, ◌++◌, length, All}
use Rattle.std.specs.List.{flat_map}
use Rattle.plan_codec.specs.Numbers.{spelled_number, IsWord}
use Rattle.row_codec.specs.Words.{spelled_node, IsProperNode}
use Rattle.row_codec.proofs.node_lists.nodes_at.Given as goal

abbrev pub invariant-loop : goal.invariant-loop
invariant-loop l = record {
  so : l.bytes ≡ spelled_number l.count ++ (flat_map spelled_node l.all.items ++ l.rest);
  word : IsWord l.count;
  each : All IsProperNode l.all.items;
  counted : length l.all.items ≡ l.counter;
}
