-- A standing state stirs: a stack without a mark has a node that is ready and not done, and that is covered.
use Rattle.std.proofs.Common.{Bool, List, ap, arith, false, inl, inr, refl, subst, suc, sym, true, zero, ◌∙◌}
use Rattle.std.proofs.lemmas.Option.{slice_get_within}
use Rattle.std.specs.Prelude.{All, Contains, List, None, Option, Some, [], length, slice_get, ℕ, ◌+◌, ◌<◌, ◌∷◌, ◌≡◌}
use Rattle.std.specs.Prelude.{◌⊎◌}
use Rattle.dep_graph.proofs.ClosingLemmas.{IsPath-length}
use Rattle.dep_graph.specs.Paths.{IsPath, Leads}
use Rattle.traversal_graph.specs.Builds.{Joins}
use Rattle.traversal_graph.specs.declared.shape.Node.{Node}
use Rattle.sync_points.specs.declared.point.Point.{Point}
use Rattle.step_relation.specs.Reads.{IsDone}
use Rattle.step_relation.specs.State.{StateData, graph_at, stack_at}
use Rattle.step_relation.specs.declared.Graph.{Graph}
use Rattle.step_relation.specs.declared.Stack.{Stack}
use Rattle.step_relation.specs.Inputs.{AllDone}
use Rattle.step_relation.specs.Resends.{IsOpen}
use Rattle.step_relation.specs.GraphFits.{GraphFits, IsNode, graph_of, graph_or}
use Rattle.step_relation.specs.Stir.{Stir}
use Rattle.history_laws.proofs.tables.Rows.{same_or_not, same_some, stack-key}
use Rattle.history_laws.proofs.agrees.Called.{none_in}
use Rattle.history_laws.proofs.headline.Items.{there_at}
use Rattle.history_laws.specs.headline.Kept.{StandingStirs}
use Rattle.provider.proofs.Lists.{here, there, cases}

done_or_not : (g : Graph) (i : ℕ) → IsDone g i ⊎ (¬ IsDone g i)
done_or_not g i = by (slice_get g.points i) refl where
  by : (f : Option Point) → slice_get g.points i ≡ f → IsDone g i ⊎ (¬ IsDone g i)
  by None at = inr (λ d. let clash = sym d.there ∙ at in cc)
  by (Some p) at = on p.done refl where
    on : (b : Bool) → p.done ≡ b → IsDone g i ⊎ (¬ IsDone g i)
    on true is = inl (record { point = p; there = at; done = is })
    on false is = inr (λ d. let same : d.point ≡ p = same_some d.point p d.there at in
        let clash = sym (ap (λ (y : Point). y.done) same ∙ is) ∙ d.done in cc)

-- of the nodes below a number all are done, or one isn't
open_below : (g : Graph) (count : ℕ) → ((i : ℕ) → i < count → IsDone g i) ⊎ ((i : ℕ) × (i < count) × (¬ IsDone g i))
open_below g zero = inl (λ i lt. absurd (omega (arith, lt)))
open_below g (suc count) = elim (open_below g count) [
  | inr (i, lt, undone) ↦ inr (i, omega (arith, lt), undone)
  | inl all ↦ elim (done_or_not g count) [
    | inr undone ↦ inr (count, omega arith, undone)
    | inl done ↦ inl (λ i lt. elim (same_or_not i count) [
      | inl is ↦ subst (IsDone g) (sym is) done
      | inr ne ↦ all i (omega (arith, lt, ne))
    ])
  ]
]

-- of the nodes before a node all are done, or one isn't
open_before : (g : Graph) (i : ℕ) (edges : List (ℕ × ℕ))
    → ((a : ℕ) → Contains edges (a, i) → IsDone g a) ⊎ ((a : ℕ) × Contains edges (a, i) × (¬ IsDone g a))
open_before g i [] = inl (λ a c. absurd (none_in (a, i) c))
open_before g i ((b, k) ∷ edges) = elim (open_before g i edges) [
  | inr (a, among, undone) ↦ inr (a, there (a, i) (b, k) edges among, undone)
  | inl all ↦ elim (done_or_not g b) [
    | inl done ↦ inl (λ a c. elim (cases (a, i) (b, k) edges c) [
      | inl is ↦ let same : b ≡ a = ap (λ (y : ℕ × ℕ). y.0) is in subst (IsDone g) same done
      | inr rest ↦ all a rest
    ])
    | inr undone ↦ elim (same_or_not k i) [
      | inl same ↦ inr (b, here (b, i) (b, k) edges (ap (λ (y : ℕ). (b, y)) same), undone)
      | inr ne ↦ inl (λ a c. elim (cases (a, i) (b, k) edges c) [
        | inl is ↦ let same : k ≡ i = ap (λ (y : ℕ × ℕ). y.1) is in absurd (ne same)
        | inr rest ↦ all a rest
      ])
    ]
  ]
]

module _ (s : StateData) (st : Stack) (g : Graph) (fits_ : GraphFits s st g) where
  abbrev Edge : ℕ → ℕ → Type 0
  Edge = Joins g.graph.edges

  push_front : (a i k : ℕ) (p : List ℕ) → Edge a i → IsPath Edge i k p → IsPath Edge a k (a ∷ p)
  push_front a i k [] edge path = absurd path
  push_front a i k (f ∷ rest) edge path =
      (refl, (subst (Edge a) (sym path.0) edge, subst (λ (y : ℕ). Leads Edge y rest k) (sym path.0) path.1))

  below_more : (a n : ℕ) (p : List ℕ) → a < n → All (λ x. x < n) p → All (λ x. x < n) (a ∷ p)
  below_more a n p lt all zero d k = lt
  below_more a n p lt all (suc i) d k = all i d (omega (arith, k))

  -- back along the edges from a node that isn't done, until all before it are
  descend : (fuel i k : ℕ) (p : List ℕ) → IsPath Edge i k p → All (λ x. x < length g.graph.nodes) p
      → i < length g.graph.nodes
      → length g.graph.nodes < length p + fuel → ¬ IsDone g i → (a : ℕ) × (a < length g.graph.nodes) × IsOpen g a
  descend zero i k p path below within far undone =
      let short = IsPath-length Edge fits_.nodes.acyclic i k (length g.graph.nodes) p path below in
      absurd (omega (arith, far, short))
  descend (suc fuel) i k p path below within far undone = elim (open_before g i g.graph.edges) [
    | inl all ↦ (i, within, record { ready = λ a edge. fits_.inputs.given i a edge (all a edge); undone = undone })
    | inr (a, edge, open_) ↦
        let bound = (fits_.nodes.ends a i edge).0 in
        descend fuel a k (a ∷ p) (push_front a i k p edge path)
        (below_more a (length g.graph.nodes) p bound below) bound
        (omega (arith, far)) open_
  ]

  pub some_open : ¬ AllDone g → (i : ℕ) × (node : Node) × IsNode g i node × IsOpen g i
  some_open undone = elim (open_below g (length g.graph.nodes)) [
    | inl all ↦ absurd (undone (λ i node at. all i (slice_get_within g.graph.nodes i node at)))
    | inr (i, lt, not_done) ↦
        let (a, within, open_) = descend (length g.graph.nodes) i i (i ∷ []) (refl, refl)
        (below_more i (length g.graph.nodes) [] lt (λ k d no_. absurd (omega (arith, no_)))) lt
        (omega arith) not_done in
        let (node, at) = there_at g.graph.nodes a within in
        (a, node, at, open_)
  ]

pub standing_stirs : StandingStirs
standing_stirs s x name st at progress = by (graph_at s.graphs st.name) refl where
  self : stack_at s.stacks st.name ≡ Some st
  self = subst (λ (n : List ℕ). stack_at s.stacks n ≡ Some st) (sym (stack-key s.stacks name st at)) at

  unfinished : ¬ AllDone (graph_of s st.name)
  unfinished all = let done = (x.marks.each st.name st self).complete.1 all in let clash = sym progress ∙ done in cc

  by : (f : Option Graph) → graph_at s.graphs st.name ≡ f → Stir s st
  by None none = absurd
      (unfinished (subst (λ (f : Option Graph). AllDone (graph_or st.name f)) (sym none) (λ i node there_. cc)))
  by (Some g) found =
      let graph_is : graph_of s st.name ≡ g = ap (graph_or st.name) found in
      let fits_ : GraphFits s st g = subst (GraphFits s st) graph_is (x.shape.graphs st.name st self) in
      let undone : ¬ AllDone g = subst (λ (y : Graph). ¬ AllDone y) graph_is unfinished in
      let (i, node, its_node, open_) = some_open s st g fits_ undone in
      record {
        graph = g;
        i = i;
        node = node;
        its_graph = found;
        its_node = its_node;
        open_ = open_;
        covered = x.covered.each st.name st g i node self progress found its_node open_;
      }
