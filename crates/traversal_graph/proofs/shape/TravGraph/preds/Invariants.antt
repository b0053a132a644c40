use Rattle.std.proofs.Common.{ℕ, take}
use Rattle.std.specs.Prelude.{Contains}
use Rattle.dep_graph.specs.Lists.{ListsAll}
use Rattle.traversal_graph.proofs.shape.TravGraph.preds.Given as goal

abbrev pub invariant-loop-before : goal.invariant-loop-before
invariant-loop-before l = ListsAll (λ (before : ℕ). Contains (take l.before-index l.before-items) (before, l.node)) l.preds
