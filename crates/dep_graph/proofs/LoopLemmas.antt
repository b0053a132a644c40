-- A loop stays at one rank, and the first node on a loop is the least.
use Rattle.std.proofs.Common.{◌≡◌, ◌⊎◌, ◌<◌, ◌≤◌, ◌↔◌, ◌∙◌, ℕ, Bool, List, [], ◌∷◌, length, get_or, ap, inl, inr, arith}
use Rattle.std.proofs.lemmas.Bool.{cases_lt}
use Rattle.std.proofs.lemmas.List.{get_or_default}
use Rattle.dep_graph.specs.Edges.{Links, HasEdge, JoinsNodes}
use Rattle.dep_graph.specs.Lists.{IsLeast, ListsAll}
use Rattle.dep_graph.specs.Marks.{MarksAll}
use Rattle.dep_graph.specs.Paths.{Leads, HasPath}
use Rattle.dep_graph.proofs.MarkLemmas.{IsMarked-within}
use Rattle.dep_graph.proofs.PathLemmas.{leads_of}
use Rattle.dep_graph.specs.Loops.{IsOnLoop, HasMarked}
use Rattle.dep_graph.specs.Ranks.{AreRanks, HasRank, rank_of}

-- no path leads to a higher rank
path_falls : (E : ℕ → ℕ → Type 0) (n lowest : ℕ) (ranks : List ℕ) → AreRanks E n lowest ranks → (x : ℕ) (p : List ℕ) (y : ℕ)
    → Leads E x p y → rank_of ranks y ≤ rank_of ranks x
path_falls E n lowest ranks are x [] y e = omega (arith, ap (rank_of ranks) e)
path_falls E n lowest ranks are x (z ∷ p) y (edge, way) =
    omega (arith, are.falls x z edge, path_falls E n lowest ranks are z p y way)

-- so a node on a loop leads to one of its rank
pub loop_has_rank : (E : ℕ → ℕ → Type 0) (n lowest : ℕ) (ranks : List ℕ) (node : ℕ) (nexts : List ℕ)
    → AreRanks E n lowest ranks → ListsAll (λ next. E node next) nexts → IsOnLoop E node
    → HasRank nexts ranks (rank_of ranks node)
loop_has_rank E n lowest ranks node nexts are lists loop =
    let way = leads_of E loop.next node loop.back in record {
      node = loop.next;
      in_nodes = (lists.each loop.next).1 loop.edge;
      same = omega (arith, are.falls node loop.next loop.edge, path_falls E n lowest ranks are loop.next way.0 node way.1);
    }

-- where none of the first nodes has the rank, none at all has it
pub none_has_rank : (nodes ranks : List ℕ) (rank : ℕ)
    → ((k : ℕ) → k < length nodes → rank_of ranks (get_or nodes k 0) ≡ rank → ⊥) → HasRank nodes ranks rank → ⊥
none_has_rank nodes ranks rank none h =
    let at : get_or nodes h.in_nodes.0 0 ≡ h.node =
    get_or_default nodes h.in_nodes.0 0 h.node h.in_nodes.1 ∙ h.in_nodes.2 in
    none h.in_nodes.0 h.in_nodes.1 (ap (rank_of ranks) at ∙ h.same)

-- one of the successors reaches the node exactly where it is on a loop
pub marked_loops : (graph : Links) (node : ℕ) (nexts : List ℕ) (marks : List Bool)
    → ListsAll (λ next. HasEdge graph node next) nexts → JoinsNodes graph → length marks ≡ length graph
    → MarksAll (λ other. HasPath (HasEdge graph) other node) marks
    → HasMarked nexts marks ↔ IsOnLoop (HasEdge graph) node
marked_loops graph node nexts marks lists joins size exact = (there, back)
  where
    there : HasMarked nexts marks → IsOnLoop (HasEdge graph) node
    there h = record {
      next = h.node;
      edge = (lists.each h.node).0 h.in_nodes;
      back = (exact h.node (IsMarked-within marks h.node h.marked)).0 h.marked;
    }

    back : IsOnLoop (HasEdge graph) node → HasMarked nexts marks
    back loop = record {
      node = loop.next;
      in_nodes = (lists.each loop.next).1 loop.edge;
      marked = (exact loop.next (rw size (joins node loop.next loop.edge).1)).1 loop.back;
    }

pub first_loop : (graph : Links) (node : ℕ) → IsOnLoop (HasEdge graph) node
    → ((k : ℕ) → k < node → IsOnLoop (HasEdge graph) k → ⊥) → IsLeast (IsOnLoop (HasEdge graph)) node
first_loop graph node loop earlier = record { is = loop; least = λ other h. by other h (cases_lt other node) }
  where
    by : (other : ℕ) → IsOnLoop (HasEdge graph) other → (other < node) ⊎ (node ≤ other) → node ≤ other
    by other h (inl lt) = absurd (earlier other lt h)
    by other h (inr le) = le

pub none_loop : (graph : Links) (size : ℕ) → JoinsNodes graph → length graph ≤ size
    → ((k : ℕ) → k < size → IsOnLoop (HasEdge graph) k → ⊥) → (node : ℕ) → IsOnLoop (HasEdge graph) node → ⊥
none_loop graph size joins all earlier node loop =
    earlier node (omega (arith, all, (joins node loop.next loop.edge).0)) loop
