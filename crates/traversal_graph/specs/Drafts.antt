-- A graph while it is drawn.
use Rattle.std.specs.Prelude.{◌≡◌, ◌<◌, ◌↔◌, ◌^◌, ℕ, List, [], length}
use Rattle.dep_graph.specs.Paths.{IsAcyclic}
use Rattle.dep_graph.specs.Edges.{HasEdge}
use Rattle.traversal_graph.specs.declared.draft.Draft.{Draft}
use Rattle.traversal_graph.specs.Builds.{Joins, Keeps}

-- list and graph have the same edges, and these form no cycle
pub record IsDraft (draft : Draft) : Type 0 where
  pub few : length draft.graph < 2 ^ 32
  pub acyclic : IsAcyclic (HasEdge draft.graph)
  pub edges : (before after : ℕ) → HasEdge draft.graph before after ↔ Joins draft.edges before after

-- so many nodes and no edge
pub record IsBareDraft (size : ℕ) (draft : Draft) : Type 0 where
  pub size_is : length draft.graph ≡ size
  pub none : draft.edges ≡ []
  pub draft_is : IsDraft draft

-- the candidates are considered in turn
pub record Draws (candidates : List (ℕ × ℕ)) (old new : Draft) : Type 0 where
  pub size : length new.graph ≡ length old.graph
  pub draft_is : IsDraft new
  pub keeps : Keeps old.edges candidates new.edges
