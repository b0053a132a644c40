use Rattle.std.proofs.Common.{arith, length}
use Rattle.plan_codec.specs.Numbers.{spelled_number}
use Rattle.plan_codec.proofs.Sheets.{one_further, none_yet, all_put, one_more_proper, all_proper}
use Rattle.row_codec.specs.Words.{spelled_node, IsProperNode}
use Rattle.row_codec.proofs.node_lists.put_nodes.Goals as goal

pub loop-node-init : goal.loop-node-init
loop-node-init c = record {
  so = none_yet spelled_node (spelled_number (length c.args.nodes.now)) c.args.nodes.now c.args.sheet.now
      c.put_number.new.sheet c.put_number.ensures.bytes;
  each = λ k d less. absurd (omega (arith, less));
}

pub loop-node-preserved : goal.loop-node-preserved
loop-node-preserved c = record {
  so = one_further spelled_node (spelled_number (length c.args.nodes.now)) c.args.nodes.now
      c.loop-node.node-index c.node-item.result c.args.sheet.now c.loop-node.sheet c.put_node.new.sheet
      c.loop-node-test.true c.node-item.is c.loop-node.invariant.so c.put_node.ensures.bytes;
  each = one_more_proper IsProperNode c.args.nodes.now c.loop-node.node-index c.node-item.result
      c.loop-node-test.true c.node-item.is c.loop-node.invariant.each c.put_node.ensures.proper;
}

pub returns-clause-bytes : goal.returns-clause-bytes
returns-clause-bytes c = all_put spelled_node (spelled_number (length c.args.nodes.now)) c.args.nodes.now
    c.loop-node.node-index c.args.sheet.now c.loop-node.sheet c.loop-node-test.false c.loop-node.invariant.so

pub returns-clause-proper : goal.returns-clause-proper
returns-clause-proper c = (
  c.put_number.ensures.word,
  all_proper IsProperNode c.args.nodes.now c.loop-node.node-index c.loop-node-test.false
      c.loop-node.invariant.each,
)
