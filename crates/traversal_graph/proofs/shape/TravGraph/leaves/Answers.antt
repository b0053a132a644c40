-- Each turn looks at one node, and takes it if it has no mark.
use Rattle.std.proofs.Common.{◌≡◌, ◌<◌, ℕ, length, arith}
use Rattle.traversal_graph.specs.Builds.{Joins}
use Rattle.traversal_graph.proofs.ListLemmas.{ListsAll-below_more, ListsAll-below_skip, marked_behind, unmarked_leaf}
use Rattle.traversal_graph.proofs.shape.TravGraph.leaves.Goals as goal
use Rattle.traversal_graph.proofs.shape.TravGraph.leaves.Goals.{then-not-index+in_ok-push, else-not-index}

within : {n m k : ℕ} → n ≡ m → k < m → k < n
within e lt = omega arith

pub loop-node-preserved : goal.loop-node-preserved
loop-node-preserved c = elim c.if-not-index.branch [
  | then-not-index+in_ok-push w ↦ rw (w.leaves-is, w.in_ok-push.ensures.ok)
      (ListsAll-below_more (λ node. (before : ℕ) → ¬ Joins c.args.self.now.edges before node) c.loop-node.node _
      (unmarked_leaf _ _ _ _ (within c.in_ok-behind.ensures.size c.loop-node-test.true) (rw c.as_slice.ensures at c.in_ok-behind.ensures.exact) c.index.ensures w.if-not-index.true)
      c.loop-node.invariant)
  | else-not-index w ↦ rw w.leaves-is
      (ListsAll-below_skip (λ node. (before : ℕ) → ¬ Joins c.args.self.now.edges before node) c.loop-node.node _
      (λ none. (let found = marked_behind _ _ _ _ (within c.in_ok-behind.ensures.size c.loop-node-test.true) (rw c.as_slice.ensures at c.in_ok-behind.ensures.exact) c.index.ensures w.if-not-index.false in none found.0 found.1))
      c.loop-node.invariant)
]

pub returns : goal.returns
returns c =
    let end : c.loop-node.node ≡ length c.args.self.now.nodes = omega (arith, c.in-Ok.ensures.1, c.len.ensures) in
    rw end at c.loop-node.invariant
