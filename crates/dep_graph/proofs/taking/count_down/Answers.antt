-- What is counted down and what is still to come are the old counts together.
use Rattle.std.proofs.Common.{arith}
use Rattle.dep_graph.proofs.CountLemmas.{IsCounting-start, IsCounting-some, IsCounting-more, CountsDown-all}
use Rattle.dep_graph.proofs.taking.count_down.Goals as goal

pub loop-node-init : goal.loop-node-init
loop-node-init c = record {
  counting = IsCounting-start _ _;
  ready = c.requires.ready;
}

pub count_one-requires-clause-within : goal.count_one-requires-clause-within
count_one-requires-clause-within c =
    rw c.loop-node.invariant.counting.same (c.requires.within c.loop-node.node-index 0 c.loop-node-test.true)

pub count_one-requires-clause-marked : goal.count_one-requires-clause-marked
count_one-requires-clause-marked c = c.requires.marked c.loop-node.node-index 0 c.loop-node-test.true

pub count_one-requires-clause-some : goal.count_one-requires-clause-some
count_one-requires-clause-some c =
    IsCounting-some _ _ _ _ c.loop-node.invariant.counting c.loop-node-test.true c.requires.enough

pub count_one-requires-clause-ready : goal.count_one-requires-clause-ready
count_one-requires-clause-ready c = c.loop-node.invariant.ready

pub loop-node-preserved : goal.loop-node-preserved
loop-node-preserved c = record {
  counting = IsCounting-more _ _ _ _ _ c.loop-node.invariant.counting c.loop-node-test.true c.in_ok-count_one.ensures.counted;
  ready = c.in_ok-count_one.ensures.ready;
}

pub returns-clause-counted : goal.returns-clause-counted
returns-clause-counted c =
    CountsDown-all _ _ _ _ c.loop-node.invariant.counting c.loop-node-test.false

pub returns-clause-ready : goal.returns-clause-ready
returns-clause-ready c = c.loop-node.invariant.ready
