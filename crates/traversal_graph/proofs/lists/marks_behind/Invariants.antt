use Rattle.std.proofs.Common.{ℕ, ◌≡◌, length, take}
use Rattle.dep_graph.specs.Marks.{MarksAll}
use Rattle.traversal_graph.specs.Builds.{Joins}
use Rattle.traversal_graph.proofs.lists.marks_behind.Given as goal

-- the nodes behind the edges so far have their marks
abbrev pub invariant-loop-after : goal.invariant-loop-after
invariant-loop-after l = record {
  size : length l.marks.items ≡ l.count;
  exact : MarksAll (λ node. (before : ℕ) × Joins (take l.after-index l.edges) before node) l.marks.items;
}
