-- A graph of listed edges, one edge more, and its cycles.
use Rattle.std.proofs.Common.{◌↔◌, ℕ, ◌+◌, ◌<◌, ◌≤◌, List, [], ◌∷◌, ◌++◌, length, get_or, take, sym, ap, inl, inr, arith}
use Rattle.std.specs.Prelude.{Contains}
use Rattle.std.proofs.lemmas.List.{take_all, take_more}
use Rattle.std.proofs.lemmas.List.Elements.{Contains-append_left, Contains-push, Contains-push_cases}
use Rattle.dep_graph.specs.Paths.{IsAcyclic}
use Rattle.dep_graph.specs.Edges.{Links, HasEdge, IsBare, AddsEdge}
use Rattle.traversal_graph.specs.Builds.{Joins}
use Rattle.traversal_graph.proofs.KeptLemmas.{acyclic_weaker}

-- the graph has the edges listed
abbrev Has : Links → List (ℕ × ℕ) → Type 0
Has graph edges = (before after : ℕ) → HasEdge graph before after ↔ Joins edges before after

pub edges-none : (size : ℕ) (graph : Links) → IsBare size graph → Has graph []
edges-none size graph bare x y = (λ h. absurd (bare.bare x y h), λ c. absurd (nothing c))
  where
    nothing : Contains {X = ℕ × ℕ} [] (x, y) → ⊥
    nothing (k, lt, e) = absurd (omega arith)

pub edges-more : (edges : List (ℕ × ℕ)) (i : ℕ) (old new : Links) → i < length edges → Has old (take i edges)
    → AddsEdge (get_or edges i (0, 0)).0 (get_or edges i (0, 0)).1 old new → Has new (take (i + 1) edges)
edges-more edges i old new lt has adds x y = rw (take_more edges i (0, 0) lt) (there, back)
  where
    there : HasEdge new x y → Contains (take i edges ++ get_or edges i (0, 0) ∷ []) (x, y)
    there h = elim ((adds.edges x y).0 h) [
      | inl k ↦ Contains-append_left (take i edges) (get_or edges i (0, 0) ∷ []) (x, y) ((has x y).0 k)
      | inr e ↦ rw (e.0, e.1) (Contains-push (take i edges) (get_or edges i (0, 0)))
    ]

    back : Contains (take i edges ++ get_or edges i (0, 0) ∷ []) (x, y) → HasEdge new x y
    back c = (adds.edges x y).1 (elim (Contains-push_cases (take i edges) (get_or edges i (0, 0)) (x, y) c) [
      | inl k ↦ inl ((has x y).1 k)
      | inr e ↦ inr (sym (ap (λ (p : ℕ × ℕ). p.0) e), sym (ap (λ (p : ℕ × ℕ). p.1) e))
    ])

pub edges-all : (edges : List (ℕ × ℕ)) (i : ℕ) (graph : Links) → length edges ≤ i → Has graph (take i edges) → Has graph edges
edges-all edges i graph le has = rw (take_all i edges le) at has

pub acyclic-joins : (graph : Links) (edges : List (ℕ × ℕ)) → Has graph edges → IsAcyclic (HasEdge graph) → IsAcyclic (Joins edges)
acyclic-joins graph edges has = acyclic_weaker (Joins edges) (HasEdge graph) (λ x y k. (has x y).1 k)

pub acyclic-edges : (graph : Links) (edges : List (ℕ × ℕ)) → Has graph edges → IsAcyclic (Joins edges) → IsAcyclic (HasEdge graph)
acyclic-edges graph edges has = acyclic_weaker (HasEdge graph) (Joins edges) (λ x y k. (has x y).0 k)
