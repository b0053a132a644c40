-- Edges that would close a cycle.
use Rattle.std.specs.Prelude.{◌≡◌, ℕ, List}
use Rattle.dep_graph.specs.Lists.{IsLeast}
use Rattle.dep_graph.specs.Paths.{IsPath, HasPath}
use Rattle.dep_graph.specs.Edges.{Links, HasEdge, AddsEdge}

-- from a node to the least of its successors from which the goal is reached
abbrev pub GoesTowards : (ℕ → ℕ → Type 0) → ℕ → ℕ → ℕ → Type 0
GoesTowards Edge goal node = IsLeast (λ succ. Edge node succ × HasPath Edge succ goal)

-- the edge is added, since no path leads from its after to its before
pub record Opens (before after : ℕ) (old new : Links) : Type 0 where
  pub open_ : ¬ HasPath (HasEdge old) after before
  pub added : AddsEdge before after old new

-- the path that the edge would close, each step the least that leads there
pub record Closes (before after : ℕ) (old new : Links) (path : List ℕ) : Type 0 where
  pub path_is : IsPath (HasEdge old) after before path
  pub least : IsPath (GoesTowards (HasEdge old) before) after before path
  pub same : new ≡ old
