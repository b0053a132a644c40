use Rattle.std.proofs.Common.{◌≡◌, ◌++◌, All, take, length}
use Rattle.std.specs.List.{flat_map}
use Rattle.plan_codec.specs.Numbers.{spelled_number}
use Rattle.plan_codec.specs.Sheets.{behind}
use Rattle.row_codec.specs.Words.{spelled_node, IsProperNode}
use Rattle.row_codec.proofs.node_lists.put_nodes.Given as goal

abbrev pub invariant-loop-node : goal.invariant-loop-node
invariant-loop-node l = record {
  so : l.sheet ≡ behind l.fn.sheet (spelled_number (length l.nodes) ++ flat_map spelled_node (take l.node-index l.nodes));
  each : All IsProperNode (take l.node-index l.nodes);
}
