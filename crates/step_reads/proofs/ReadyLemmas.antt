-- Whether each edge into a node has its input.
use Rattle.std.proofs.Common.{◌≡◌, ◌<◌, ◌↔◌, inl, inr, ℕ, List, [], ◌∷◌, ◌++◌, None, Some, sym, ap, ◌∙◌, subst, arith}
use Rattle.std.proofs.Common.{length, get_or}
use Rattle.std.specs.Prelude.{Contains, IsPermutation, Option, map, option_to_list, slice_get}
use Rattle.std.proofs.lemmas.List.{get_or-map, length-map}
use Rattle.std.proofs.lemmas.List.Elements.{Contains-append_cases, Contains-append_left, Contains-append_right}
use Rattle.std.proofs.lemmas.List.Elements.{Contains-get_or}
use Rattle.std.proofs.lemmas.List.Sorted.{Contains-permutation, IsPermutation-sym}
use Rattle.traversal_graph.specs.Builds.{Joins}
use Rattle.sync_points.specs.declared.point.Input.{Input}
use Rattle.sync_points.specs.declared.point.Point.{Point}
use Rattle.core_state.specs.Reads.{HasInput, IsReady}
use Rattle.core_state.specs.declared.graph.Graph.{Graph}
use Rattle.step_reads.specs.Readiness.{ComesFrom, HasInputWith, HaveAll, IsReadyWith, LacksOne}
use Rattle.step_reads.proofs.Tables.{Contains-cons_cases, Contains-head}

pub edge_at : (edges : List (ℕ × ℕ)) (i node : ℕ) → i < length edges → (get_or edges i (0, 0)).1 ≡ node
    → Joins edges (get_or edges i (0, 0)).0 node
edge_at edges i node lt e =
    subst (λ (x : ℕ). Joins edges (get_or edges i (0, 0)).0 x) e (Contains-get_or edges i (0, 0) lt)

pub among_map : {X Y : Type 0} (f : X → Y) (xs : List X) (x : X) → Contains xs x → Contains (map f xs) (f x)
among_map f xs x (k, lt, e) = (k, rw (length-map xs f) lt, get_or-map f xs k x (f x) lt ∙ ap f e)

pub mapped_among : {X Y : Type 0} (f : X → Y) (xs : List X) (y : Y) → Contains (map f xs) y
    → (x : X) × Contains xs x × (f x ≡ y)
mapped_among f [] y (k, lt, e) = absurd (omega (arith, lt))
mapped_among f (x ∷ xs) y (k, lt, e) =
    let inside : k < length (x ∷ xs) = rw (length-map (x ∷ xs) f) at lt in
    (get_or (x ∷ xs) k x, Contains-get_or (x ∷ xs) k x inside, sym (get_or-map f (x ∷ xs) k x y inside) ∙ e)

option_among : (from : Option ℕ) (a : ℕ) → Contains (option_to_list from) a → from ≡ Some a
option_among None a (k, lt, e) = absurd (omega (arith, lt))
option_among (Some x) a c = elim (Contains-cons_cases x [] a c) [
  | inl e ↦ ap (λ (n : ℕ). Some n) e
  | inr (k, lt, e) ↦ absurd (omega (arith, lt))
]

among_option : (from : Option ℕ) (a : ℕ) → from ≡ Some a → Contains (option_to_list from) a
among_option from a is = subst (λ (o : Option ℕ). Contains (option_to_list o) a) (sym is) (Contains-head a [])

pub comes_from : (inputs : List Input) (from : Option ℕ) (givers sources : List ℕ)
    → givers ≡ map (λ (x : Input). x.from) inputs ++ option_to_list from
    → IsPermutation givers sources → (a : ℕ) → Contains sources a ↔ ComesFrom inputs from a
comes_from inputs from givers sources is same a = (there, back) where
  there : Contains sources a → ComesFrom inputs from a
  there c = elim (Contains-append_cases (map (λ (x : Input). x.from) inputs) (option_to_list from) a
      (subst (λ (l : List ℕ). Contains l a) is
      (Contains-permutation sources givers a (IsPermutation-sym givers sources same) c))) [
        | inl k ↦ inl (mapped_among (λ (x : Input). x.from) inputs a k)
        | inr k ↦ inr (option_among from a k)
      ]

  back : ComesFrom inputs from a → Contains sources a
  back h = Contains-permutation givers sources a same (subst (λ (l : List ℕ). Contains l a) (sym is) (by h)) where
    by : ComesFrom inputs from a → Contains (map (λ (x : Input). x.from) inputs ++ option_to_list from) a
    by (inl (x, among, e)) = Contains-append_left _ (option_to_list from) a
        (subst (Contains (map (λ (x : Input). x.from) inputs)) e (among_map (λ (x : Input). x.from) inputs x among))
    by (inr e) = Contains-append_right (map (λ (x : Input). x.from) inputs) _ a (among_option from a e)

pub ready_with : (g : Graph) (i : ℕ) (from : Option ℕ) (p : Point) (sources : List ℕ) → slice_get g.points i ≡ Some p
    → ((a : ℕ) → Contains sources a ↔ ComesFrom p.inputs from a) → HaveAll g.graph.edges i sources
    → IsReadyWith g i from
ready_with g i from p sources there each all a edge =
    record { point = p; there = there; comes = (each a).0 (all a edge) }

pub not_ready_with : (g : Graph) (i : ℕ) (from : Option ℕ) (p : Point) (sources : List ℕ)
    → slice_get g.points i ≡ Some p
    → ((a : ℕ) → Contains sources a ↔ ComesFrom p.inputs from a) → LacksOne g.graph.edges i sources
    → ¬ IsReadyWith g i from
not_ready_with g i from p sources there each lacks ready =
    let h = ready lacks.before lacks.edge in
    let some : Some h.point ≡ Some p = sym h.there ∙ there in
    let is : h.point ≡ p = cc in
    lacks.lacking ((each lacks.before).1 (subst (λ (q : Point). ComesFrom q.inputs from lacks.before) is h.comes))

pub pointless_ready : (g : Graph) (i : ℕ) (from : Option ℕ) → HaveAll g.graph.edges i [] → IsReadyWith g i from
pointless_ready g i from all a edge = let (k, lt, e) = all a edge in absurd (omega (arith, lt))

pub pointless_lacks : (g : Graph) (i : ℕ) (from : Option ℕ) → slice_get g.points i ≡ None → LacksOne g.graph.edges i []
    → ¬ IsReadyWith g i from
pointless_lacks g i from none lacks ready = let h = ready lacks.before lacks.edge in
    let there : slice_get g.points i ≡ Some h.point = h.there in cc

pub ready_alone : (g : Graph) (i : ℕ) → IsReadyWith g i None → IsReady g i
ready_alone g i ready a edge = by (ready a edge) where
  by : HasInputWith g i None a → HasInput g i a
  by h = of h.comes where
    of : ComesFrom h.point.inputs None a → HasInput g i a
    of (inl (x, among, e)) = record { point = h.point; input = x; there = h.there; among = among; from = e }
    of (inr e) = cc

pub alone_ready : (g : Graph) (i : ℕ) → IsReady g i → IsReadyWith g i None
alone_ready g i ready a edge =
    let h = ready a edge in record { point = h.point; there = h.there; comes = inl (h.input, h.among, h.from) }
