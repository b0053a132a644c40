-- Each turn takes one node that waits, and lets its unmarked predecessors wait.
use Rattle.std.proofs.Common.{◌≡◌, ◌+◌, [], length, ap, ◌∙◌, arith}
use Rattle.std.proofs.lemmas.List.{length_push, nil_from_length}
use Rattle.std.proofs.lemmas.List.Elements.{Contains-push}
use Rattle.dep_graph.proofs.MarkLemmas.{IsMarked-within, neighbours_within}
use Rattle.dep_graph.proofs.SearchLemmas.{IsSearch-start, IsSearch-more, MarksAll-search}
use Rattle.dep_graph.proofs.edges.Graph.reaching.Goals as goal

pub loop-node-init : goal.loop-node-init
loop-node-init c =
    IsSearch-start _ _ _ _ _ (rw (c.in_ok-marks.ensures, c.new-pending.ensures.items, c.size.ensures.size) at c.in_ok-mark_new.ensures)

pub preds-requires : goal.preds-requires
preds-requires c =
    rw (← c.loop-node.invariant.size) (IsMarked-within _ _
    (c.loop-node.invariant.waits c.in-Some.node (rw c.in-Some.ensures.items (Contains-push _ _))))

pub mark_new-requires-in-Some : goal.mark_new-requires-in-Some
mark_new-requires-in-Some c =
    neighbours_within _ _ _ c.preds.ensures.exact
    (λ x edge. rw c.loop-node.invariant.size (c.preds.ensures.joins x _ edge).0)

pub loop-node-preserved : goal.loop-node-preserved
loop-node-preserved c =
    IsSearch-more _ _ _ _ _ _ _ _ _ _ c.loop-node.invariant c.in-Some.ensures.items c.preds.ensures.exact c.in_ok-mark_new-2.ensures

pub loop-node-smaller : goal.loop-node-smaller
loop-node-smaller c =
    let popped : length c.loop-node.pending.items ≡ length c.pop.new.self.items + 1 = ap length c.in-Some.ensures.items ∙ length_push _ _ in
    omega (arith, c.in_ok-mark_new-2.ensures.work, popped)

pub returns-clause-exact : goal.returns-clause-exact
returns-clause-exact c =
    let none : c.loop-node.pending.items ≡ [] = nil_from_length _ (omega (arith, c.in_default.ensures.cases)) in
    MarksAll-search _ _ _ _ (rw none at c.loop-node.invariant)
