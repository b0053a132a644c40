-- The least node that is ready is what no node left holds, and is listed next.
use Rattle.std.proofs.Common.{ap, length, ◌∙◌}
use Rattle.std.proofs.lemmas.List.{length-set, length-map, length-replicate}
use Rattle.dep_graph.proofs.MarkLemmas.{IsMarked-within, Leaves-none, Leaves-push, count_by-clear, neighbours_within}
use Rattle.dep_graph.proofs.OrderLemmas.{TakesLeast-none, TakesLeast-push, ready_from_unheld}
use Rattle.dep_graph.proofs.CountLemmas.{CountsLeft-all, CountsLeft-step, ListsReady-first, unheld_first, rest_ready, counted_enough, succs_marked, stuck_at_end}
use Rattle.dep_graph.proofs.taking.take_away.Goals as goal

pub without_preds-requires : goal.without_preds-requires
without_preds-requires c =
    ap length c.as_slice.ensures.value ∙ ap length c.in_ok-counts.ensures.counts ∙ length-map _ _

pub loop-node-init : goal.loop-node-init
loop-node-init c = record {
  taken = rw c.new-taken.ensures (TakesLeast-none _ _);
  leaves = rw (c.new-taken.ensures, c.requires.all) (Leaves-none _);
  same = rw c.requires.all (length-replicate _ _);
  counted = rw (c.requires.all, c.in_ok-counts.ensures.counts) (CountsLeft-all _ c.requires.joins);
  ready = rw c.requires.all (ListsReady-first _ _ _ (ap length c.in_ok-counts.ensures.counts ∙ length-map _ _)
      (rw c.as_slice.ensures.value at c.in_ok-ready.ensures));
  rising = c.in_ok-counts.ensures.rising;
}

pub put-requires : goal.put-requires
put-requires c = IsMarked-within _ _ (unheld_first _ _ _ _ _ _ c.loop-node.invariant.counted c.loop-node.invariant.ready c.in-Some.ensures.least c.in-Some.ensures.rising).is.marked

pub succs-requires : goal.succs-requires
succs-requires c = rw (← c.loop-node.invariant.same) (IsMarked-within _ _ (unheld_first _ _ _ _ _ _ c.loop-node.invariant.counted c.loop-node.invariant.ready c.in-Some.ensures.least c.in-Some.ensures.rising).is.marked)

pub count_down-requires-clause-within : goal.count_down-requires-clause-within
count_down-requires-clause-within c =
    neighbours_within _ _ _ c.succs.ensures.exact
    (λ x edge. rw c.loop-node.invariant.counted.same (c.succs.ensures.joins _ x edge).1)

pub count_down-requires-clause-marked : goal.count_down-requires-clause-marked
count_down-requires-clause-marked c =
    rw (c.as_slice-in-Some.ensures, c.put.ensures)
    (succs_marked _ _ _ _ _ c.requires.joins c.loop-node.invariant.same c.loop-node.invariant.taken
    c.loop-node.invariant.leaves (unheld_first _ _ _ _ _ _ c.loop-node.invariant.counted c.loop-node.invariant.ready c.in-Some.ensures.least c.in-Some.ensures.rising).is c.succs.ensures.exact)

pub count_down-requires-clause-enough : goal.count_down-requires-clause-enough
count_down-requires-clause-enough c =
    counted_enough _ _ _ _ _ c.loop-node.invariant.rising c.loop-node.invariant.counted
    (unheld_first _ _ _ _ _ _ c.loop-node.invariant.counted c.loop-node.invariant.ready c.in-Some.ensures.least c.in-Some.ensures.rising).is.marked c.succs.ensures.exact

pub count_down-requires-clause-ready : goal.count_down-requires-clause-ready
count_down-requires-clause-ready c =
    rw (c.as_slice-in-Some.ensures, c.put.ensures)
    (rest_ready _ _ _ _ _ c.loop-node.invariant.ready c.in-Some.ensures.least c.in-Some.ensures.rising)

pub loop-node-smaller : goal.loop-node-smaller
loop-node-smaller c = rw c.put.ensures (count_by-clear c.loop-node.left c.in-Some.node (unheld_first _ _ _ _ _ _ c.loop-node.invariant.counted c.loop-node.invariant.ready c.in-Some.ensures.least c.in-Some.ensures.rising).is.marked)

pub loop-node-preserved : goal.loop-node-preserved
loop-node-preserved c = record {
  taken = rw c.in_ok-push.ensures.ok (TakesLeast-push _ _ _ _ c.loop-node.invariant.taken
      (ready_from_unheld _ _ _ _ c.requires.joins c.loop-node.invariant.same c.loop-node.invariant.leaves (unheld_first _ _ _ _ _ _ c.loop-node.invariant.counted c.loop-node.invariant.ready c.in-Some.ensures.least c.in-Some.ensures.rising)));
  leaves = rw (c.in_ok-push.ensures.ok, c.put.ensures) (Leaves-push _ _ _ c.loop-node.invariant.leaves);
  same = rw c.put.ensures (length-set _ _ _ ∙ c.loop-node.invariant.same);
  counted = rw c.put.ensures (CountsLeft-step _ _ _ _ _ _ c.loop-node.invariant.rising c.loop-node.invariant.counted
      (unheld_first _ _ _ _ _ _ c.loop-node.invariant.counted c.loop-node.invariant.ready c.in-Some.ensures.least c.in-Some.ensures.rising).is.marked c.succs.ensures.exact c.in_ok-count_down.ensures.counted);
  ready = rw c.as_slice-in-Some.ensures at c.in_ok-count_down.ensures.ready;
  rising = c.loop-node.invariant.rising;
}

pub returns-clause-taken : goal.returns-clause-taken
returns-clause-taken c = c.loop-node.invariant.taken

pub returns-clause-left : goal.returns-clause-left
returns-clause-left c = c.loop-node.invariant.leaves

pub returns-clause-stuck : goal.returns-clause-stuck
returns-clause-stuck c =
    stuck_at_end _ _ _ _ c.loop-node.invariant.counted c.loop-node.invariant.ready c.in_default.ensures.least

pub returns-in_err-push-clause-size : goal.returns-in_err-push-clause-size
returns-in_err-push-clause-size c = c.loop-node.invariant.same

pub returns-in_err-count_down-clause-size : goal.returns-in_err-count_down-clause-size
returns-in_err-count_down-clause-size c = rw c.put.ensures (length-set _ _ _ ∙ c.loop-node.invariant.same)

pub returns-clause-size : goal.returns-clause-size
returns-clause-size c = c.loop-node.invariant.same
