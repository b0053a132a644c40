-- A graph as contracts see it: each node's predecessors, by the node's number.
use Rattle.std.specs.Prelude.{◌≡◌, ◌<◌, ◌↔◌, ◌⊎◌, ◌^◌, ℕ, List, [], length, slice_index_or, Contains}
use Rattle.dep_graph.specs.Lists.{IsRising}

-- the lists of the graph's nodes
abbrev pub Links : Type 0
Links = List (List ℕ)

-- an edge goes from one node to another
abbrev pub HasEdge : Links → ℕ → ℕ → Type 0
HasEdge graph before after = Contains (slice_index_or graph after []) before

-- edges join the graph's own nodes alone
abbrev pub JoinsNodes : Links → Type 0
JoinsNodes graph = (before after : ℕ) → HasEdge graph before after
    → (before < length graph) × (after < length graph)

-- so many nodes and no edge
pub record IsBare (size : ℕ) (graph : Links) : Type 0 where
  pub size_is : length graph ≡ size
  pub bare : (before after : ℕ) → ¬ HasEdge graph before after

-- the same nodes, the old edges and this one
pub record AddsEdge (before after : ℕ) (old new : Links) : Type 0 where
  pub same : length new ≡ length old
  pub edges : (x y : ℕ)
      → HasEdge new x y ↔ (HasEdge old x y ⊎ ((x ≡ before) × (y ≡ after)))

-- each node's predecessors and each node's successors tell the same edges
pub record IsTwofold (preds succs : Links) : Type 0 where
  pub same : length succs ≡ length preds
  pub few : length preds < 2 ^ 32
  pub rising_preds : (node : ℕ) → IsRising (slice_index_or preds node [])
  pub rising_succs : (node : ℕ) → IsRising (slice_index_or succs node [])
  pub joins : JoinsNodes preds
  pub both : (before after : ℕ)
      → Contains (slice_index_or succs before []) after ↔ HasEdge preds before after
