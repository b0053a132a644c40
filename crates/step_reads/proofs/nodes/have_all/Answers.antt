use Rattle.std.proofs.Common.{get_or}
use Rattle.std.proofs.lemmas.Bool.{both_ways}
use Rattle.std.proofs.lemmas.List.{take_all}
use Rattle.step_reads.proofs.ReadyLemmas.{edge_at}
use Rattle.step_reads.proofs.nodes.have_all.Goals as goal

pub returns-then-not-is_among-clause-no_ : goal.returns-then-not-is_among-clause-no_
returns-then-not-is_among-clause-no_ c = record {
  before = (get_or c.args.edges.now c.loop-before.before-index (0, 0)).0;
  edge = edge_at c.args.edges.now c.loop-before.before-index c.args.node c.loop-before-test.true c.if-after-node.true;
  lacking = λ h. both_ways c.is_among.result c.if-not-is_among.true (c.is_among.ensures.1 h);
}

pub returns-clause-yes : goal.returns-clause-yes
returns-clause-yes c =
    rw (take_all c.loop-before.before-index c.args.edges.now c.loop-before-test.false) at c.loop-before.invariant
