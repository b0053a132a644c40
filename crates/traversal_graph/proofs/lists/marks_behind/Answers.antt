-- Each turn marks the after of one edge more.
use Rattle.std.proofs.Common.{◌∙◌}
use Rattle.std.proofs.lemmas.List.{length-set}
use Rattle.traversal_graph.proofs.ListLemmas.{MarksAll-all, MarksAll-more, MarksAll-past}
use Rattle.traversal_graph.proofs.lists.marks_behind.Goals as goal
use Rattle.traversal_graph.proofs.lists.marks_behind.Goals.{then-after-count, else-after-count}

pub loop-after-preserved : goal.loop-after-preserved
loop-after-preserved c = elim c.if-after-count.branch [
  | then-after-count w ↦ rw (w.marks-is, w.mark.ensures) (record {
    size = length-set _ _ _ ∙ c.loop-after.invariant.size;
    exact = MarksAll-more _ _ _ c.loop-after-test.true (rw c.loop-after.invariant.size w.if-after-count.true) c.loop-after.invariant.exact;
  })
  | else-after-count w ↦ rw w.marks-is (record {
    size = c.loop-after.invariant.size;
    exact = MarksAll-past _ _ _ c.loop-after-test.true (rw c.loop-after.invariant.size w.if-after-count.false) c.loop-after.invariant.exact;
  })
]

pub returns-clause-exact : goal.returns-clause-exact
returns-clause-exact c = MarksAll-all _ _ _ c.loop-after-test.false c.loop-after.invariant.exact
