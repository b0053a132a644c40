-- What one edge more means for paths and cycles, and how long a path can be.
use Rattle.std.proofs.Common.{◌≡◌, ◌⊎◌, ◌↔◌, ℕ, ◌<◌, ◌≤◌, Bool, false, eqb, List, [], ◌∷◌, length, refl, sym, subst, inl, inr, arith}
use Rattle.std.specs.Prelude.{All}
use Rattle.std.specs.List.{IsDistinct, AllByRecursion}
use Rattle.std.proofs.lemmas.Bool.{eqb-true, false_from_ne_true}
use Rattle.std.proofs.lemmas.List.Elements.{All-contains}
use Rattle.std.proofs.lemmas.Map.Views.{Contains-from_any}
use Rattle.std.proofs.lemmas.Map.Keys.{IsDistinct-cons}
use Rattle.std.proofs.lemmas.Map.Steps.{length-le_from_distinct_below}
use Rattle.dep_graph.specs.Lists.{IsLeast, ListsAll}
use Rattle.dep_graph.specs.Paths.{Leads, IsPath, HasPath, IsAcyclic}
use Rattle.dep_graph.specs.Edges.{Links, HasEdge, JoinsNodes, IsBare, AddsEdge}
use Rattle.dep_graph.specs.Marks.{IsMarked, MarksAll}
use Rattle.dep_graph.specs.Closings.{GoesTowards, Closes}
use Rattle.dep_graph.proofs.PathLemmas.{HasPath-refl, HasPath-same, HasPath-step, HasPath-append, HasPath-push, HasPath-first, HasPath-last, HasPath-leads, Leads-weaker, IsPath-weaker, leads_of, Loops, acyclic_from, no_loop}
use Rattle.dep_graph.proofs.MarkLemmas.{IsMarked-within}

-- the edges of one relation are those of another and one more
abbrev pub HasOneMore : (ℕ → ℕ → Type 0) → (ℕ → ℕ → Type 0) → ℕ → ℕ → Type 0
HasOneMore E F before after = (x y : ℕ) → F x y → E x y ⊎ ((x ≡ before) × (y ≡ after))

-- a path with the edge goes without it, or to its before and on from its after
paths_with : (E F : ℕ → ℕ → Type 0) (before after : ℕ) → HasOneMore E F before after
    → (a : ℕ) (p : List ℕ) (b : ℕ) → Leads F a p b
    → HasPath E a b ⊎ (HasPath E a before × HasPath E after b)
paths_with E F before after more a [] b e = inl (HasPath-same E a b e)
paths_with E F before after more a (x ∷ p) b (e, r) =
    by (more a x e) (paths_with E F before after more x p b r)
  where
    by : E a x ⊎ ((a ≡ before) × (x ≡ after)) → HasPath E x b ⊎ (HasPath E x before × HasPath E after b)
        → HasPath E a b ⊎ (HasPath E a before × HasPath E after b)
    by (inl s) (inl h) = inl (HasPath-step E a x b s h)
    by (inl s) (inr (g, h)) = inr (HasPath-step E a x before s g, h)
    by (inr (at, to)) (inl h) = let P : ℕ → Type 0 = λ z. HasPath E z b in inr (HasPath-same E a before at, subst P to h)
    by (inr (at, to)) (inr (g, h)) = inr (HasPath-same E a before at, h)

path_more : (old new : Links) (before after : ℕ) → AddsEdge before after old new
    → (a b : ℕ) → HasPath (HasEdge old) a b → HasPath (HasEdge new) a b
path_more old new before after adds a b h =
    let p = leads_of (HasEdge old) a b h in
    HasPath-leads (HasEdge new) a p.0 b (Leads-weaker (HasEdge old) (HasEdge new) (λ x y e. (adds.edges x y).1 (inl e)) a p.0 b p.1)

-- an edge whose before isn't reached from its after closes no cycle
pub acyclic_with : (E F : ℕ → ℕ → Type 0) (before after : ℕ) → HasOneMore E F before after
    → IsAcyclic E → ¬ HasPath E after before → IsAcyclic F
acyclic_with E F before after more acyclic open' = acyclic_from F no
  where
    by : (a x : ℕ) → E a x ⊎ ((a ≡ before) × (x ≡ after)) → HasPath E x a ⊎ (HasPath E x before × HasPath E after a) → ⊥
    by a x (inl s) (inl h) = no_loop E acyclic a (x, s, h)
    by a x (inl s) (inr (g, h)) = open' (HasPath-append E after a before h (HasPath-step E a x before s g))
    by a x (inr (at, to)) (inl h) = let P : ℕ → Type 0 = λ z. HasPath E z a in let Q : ℕ → Type 0 = λ z. HasPath E after z in open' (subst Q at (subst P to h))
    by a x (inr (at, to)) (inr (g, h)) = let P : ℕ → Type 0 = λ z. HasPath E z before in open' (subst P to g)

    no : (a : ℕ) → ¬ Loops F a
    no a (x, e, h) = let p = leads_of F x a h in by a x (more a x e) (paths_with E F before after more x p.0 a p.1)

-- what comes later on a way isn't a node from which there was a step
none_back : (E : ℕ → ℕ → Type 0) → IsAcyclic E → (a x c : ℕ) → E a x → HasPath E x c
    → (p : List ℕ) (b : ℕ) → Leads E c p b → AllByRecursion (λ y. eqb a y ≡ false) p
none_back E acyclic a x c s h [] b e = tt
none_back E acyclic a x c s h (y ∷ p) b (e, r) =
    let on : HasPath E x y = HasPath-push E x c y h e in
    let P : ℕ → Type 0 = λ z. HasPath E x z in (
      false_from_ne_true (eqb a y) (λ same. no_loop E acyclic a (x, s, subst P (sym (eqb-true a y same)) on)),
      none_back E acyclic a x y s on p b r,
    )

IsDistinct-none : IsDistinct eqb []
unfolding IsDistinct
IsDistinct-none = tt

Leads-distinct : (E : ℕ → ℕ → Type 0) → IsAcyclic E → (a : ℕ) (p : List ℕ) (b : ℕ) → Leads E a p b → IsDistinct eqb (a ∷ p)
Leads-distinct E acyclic a [] b e = IsDistinct-cons eqb a [] tt IsDistinct-none
Leads-distinct E acyclic a (x ∷ p) b (e, r) = IsDistinct-cons eqb a (x ∷ p) later (Leads-distinct E acyclic x p b r)
  where
    later : AllByRecursion (λ y. eqb a y ≡ false) (x ∷ p)
    later = let P : ℕ → Type 0 = λ z. HasPath E x z in (
      false_from_ne_true (eqb a x) (λ same. no_loop E acyclic a (x, e, subst P (sym (eqb-true a x same)) (HasPath-refl E x))),
      none_back E acyclic a x x e (HasPath-refl E x) p b r,
    )

-- different numbers below a bound
pub length-le_distinct : (xs : List ℕ) (n : ℕ) → IsDistinct eqb xs → All (λ x. x < n) xs → length xs ≤ n
length-le_distinct xs n once below =
    length-le_from_distinct_below xs n once (λ q h. All-contains (λ x. x < n) xs q below (Contains-from_any eqb-true q xs h))

-- a path without a cycle has each node at most once
pub IsPath-length : (E : ℕ → ℕ → Type 0) → IsAcyclic E → (a b n : ℕ) (p : List ℕ) → IsPath E a b p
    → All (λ x. x < n) p → length p ≤ n
IsPath-length E acyclic a b n [] h below = absurd h
IsPath-length E acyclic a b n (x ∷ p) (s, r) below =
    let P : ℕ → Type 0 = λ z. Leads E z p b in
    length-le_distinct (x ∷ p) n (Leads-distinct E acyclic x p b (subst P (sym s) r)) below

-- a path to another node goes on from where it begins, and comes from somewhere
pub no_way_on : (graph : Links) (from to : ℕ) (nodes : List ℕ) → (from ≡ to → ⊥) → ListsAll (λ succ. HasEdge graph from succ) nodes
    → length nodes ≡ 0 → ¬ HasPath (HasEdge graph) from to
no_way_on graph from to nodes apart lists none h = elim (HasPath-first (HasEdge graph) from to h) [
  | inl e ↦ apart e
  | inr s ↦ (let c = (lists.each s.0).1 s.1 in absurd (omega (arith, c.1)))
]

pub no_way_back : (graph : Links) (from to : ℕ) (nodes : List ℕ) → (from ≡ to → ⊥) → ListsAll (λ pred. HasEdge graph pred to) nodes
    → length nodes ≡ 0 → ¬ HasPath (HasEdge graph) from to
no_way_back graph from to nodes apart lists none h =
    let p = leads_of (HasEdge graph) from to h in
    elim (HasPath-last (HasEdge graph) from p.0 to p.1) [
      | inl e ↦ apart e
      | inr s ↦ (let c = (lists.each s.0).1 s.2 in absurd (omega (arith, c.1)))
    ]

-- the least successor with a mark is the next towards the goal
pub GoesTowards-marked : (graph : Links) (marks : List Bool) (goal node next : ℕ) → JoinsNodes graph
    → length marks ≡ length graph → MarksAll (λ x. HasPath (HasEdge graph) x goal) marks
    → IsLeast (λ succ. HasEdge graph node succ × IsMarked marks succ) next → GoesTowards (HasEdge graph) goal node next
GoesTowards-marked graph marks goal node next joins same exact least = record {
  is = (least.is.0, (exact next (IsMarked-within marks next least.is.1)).0 least.is.1);
  least = λ other h. least.least other (h.0, (exact other (rw same (joins node other h.0).1)).1 h.1);
}

-- a marked node that isn't the goal has a marked successor
pub goes_on : (graph : Links) (marks : List Bool) (goal node : ℕ) → JoinsNodes graph
    → length marks ≡ length graph → MarksAll (λ x. HasPath (HasEdge graph) x goal) marks
    → IsMarked marks node → (node ≡ goal → ⊥) → (succ : ℕ) × HasEdge graph node succ × IsMarked marks succ
goes_on graph marks goal node joins same exact m apart =
    by (HasPath-first (HasEdge graph) node goal ((exact node (IsMarked-within marks node m)).0 m))
  where
    by : (node ≡ goal) ⊎ ((x : ℕ) × HasEdge graph node x × HasPath (HasEdge graph) x goal)
        → (succ : ℕ) × HasEdge graph node succ × IsMarked marks succ
    by (inl e) = absurd (apart e)
    by (inr (x, e, h)) = (x, e, (exact x (rw same (joins node x e).1)).1 h)

-- a path of such steps is shorter than the graph is large
pub path_short : (graph : Links) (goal from at : ℕ) (path : List ℕ) → IsAcyclic (HasEdge graph)
    → IsPath (GoesTowards (HasEdge graph) goal) from at path → All (λ x. x < length graph) path → length path ≤ length graph
path_short graph goal from at path acyclic h below =
    IsPath-length (HasEdge graph) acyclic from at (length graph) path
    (IsPath-weaker (GoesTowards (HasEdge graph) goal) (HasEdge graph) (λ x y s. s.is.0) from at path h) below

-- the path that closes is one of the graph's edges
pub Closes-path : (graph : Links) (before after : ℕ) (path : List ℕ)
    → IsPath (GoesTowards (HasEdge graph) before) after before path → Closes before after graph graph path
Closes-path graph before after path h = record {
  path_is = IsPath-weaker (GoesTowards (HasEdge graph) before) (HasEdge graph) (λ x y s. s.is.0) after before path h;
  least = h;
  same = refl;
}

pub acyclic_added : (old new : Links) (before after : ℕ) → AddsEdge before after old new
    → IsAcyclic (HasEdge old) → ¬ HasPath (HasEdge old) after before → IsAcyclic (HasEdge new)
acyclic_added old new before after adds acyclic open' =
    acyclic_with (HasEdge old) (HasEdge new) before after (λ x y h. (adds.edges x y).0 h) acyclic open'

-- an edge that closes no cycle doesn't change what is reached from its after, nor what reaches its before
pub reached_same : (old new : Links) (before after : ℕ) → AddsEdge before after old new → ¬ HasPath (HasEdge old) after before
    → (x : ℕ) → HasPath (HasEdge old) after x ↔ HasPath (HasEdge new) after x
reached_same old new before after adds open' x = (path_more old new before after adds after x, there)
  where
    there : HasPath (HasEdge new) after x → HasPath (HasEdge old) after x
    there h =
        let p = leads_of (HasEdge new) after x h in
        elim (paths_with (HasEdge old) (HasEdge new) before after (λ y z e. (adds.edges y z).0 e) after p.0 x p.1) [
          | inl k ↦ k
          | inr k ↦ absurd (open' k.0)
        ]

pub reaching_same : (old new : Links) (before after : ℕ) → AddsEdge before after old new
    → (x : ℕ) → HasPath (HasEdge old) x before ↔ HasPath (HasEdge new) x before
reaching_same old new before after adds x = (path_more old new before after adds x before, there)
  where
    there : HasPath (HasEdge new) x before → HasPath (HasEdge old) x before
    there h =
        let p = leads_of (HasEdge new) x before h in
        elim (paths_with (HasEdge old) (HasEdge new) before after (λ y z e. (adds.edges y z).0 e) x p.0 before p.1) [
          | inl k ↦ k
          | inr k ↦ k.0
        ]

-- where there is no edge there is no cycle
pub acyclic_bare : (graph : Links) (n : ℕ) → IsBare n graph → IsAcyclic (HasEdge graph)
acyclic_bare graph n bare = acyclic_from (HasEdge graph) (λ a loop. bare.bare a loop.0 loop.1)
