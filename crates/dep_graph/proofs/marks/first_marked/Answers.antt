-- The first that has its mark is the least, since the nodes rise.
use Rattle.dep_graph.proofs.MarkLemmas.{first_is_least}
use Rattle.dep_graph.proofs.marks.first_marked.Goals as goal

pub returns-then-marks-node : goal.returns-then-marks-node
returns-then-marks-node c =
    first_is_least _ _ _ c.requires.rising c.loop-node-test.true c.if-marks-node.true c.loop-node.invariant
