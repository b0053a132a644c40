-- A graph fits on when a ready node is done and gives its input to the nodes behind it: `graph_passed`.
use Rattle.std.proofs.Common.{◌≡◌, ◌≢◌, ◌<◌, ◌⊎◌, ◌↔◌, inl, inr, ℕ, Bool, true, false, cond, List, [], ◌∷◌, ◌++◌, Some}
use Rattle.std.proofs.Common.{refl, sym, ap, ◌∙◌, subst, arith}
use Rattle.std.specs.Prelude.{AllPairs, Contains, get_or, length, slice_get, ◌==◌, ◌||◌}
use Rattle.std.proofs.lemmas.Bool.{or_left, or_right}
use Rattle.std.proofs.lemmas.List.Elements.{Contains-append_cases, Contains-append_left, Contains-append_right}
use Rattle.std.proofs.lemmas.List.Elements.{Contains-get_or}
use Rattle.std.proofs.lemmas.List.Quantifiers.{all_pairs_push}
use Rattle.std.proofs.lemmas.Option.{slice_get-get_or}
use Rattle.traversal_graph.specs.Builds.{Joins}
use Rattle.traversal_graph.specs.declared.shape.Node.{Node}
use Rattle.traversal_graph.specs.declared.shape.Node.TheVariants.{C}
use Rattle.row_table.specs.declared.row.Row.{Row}
use Rattle.sync_points.specs.declared.point.Input.{Input}
use Rattle.sync_points.specs.declared.point.Point.{Point}
use Rattle.core_state.specs.Reads.{HasInput, IsDone, IsReady}
use Rattle.core_state.specs.State.{StateData}
use Rattle.core_state.specs.declared.graph.Graph.{Graph}
use Rattle.core_state.specs.declared.stack.Stack.{Stack}
use Rattle.step_relation.specs.Inputs.{gathered, has_from, is_among}
use Rattle.step_relation.specs.GraphFits.{Aims, EdgesFit, GraphFits, HasPoint, InputsFit, IsInput, IsNode, NodesFit, Stands}
use Rattle.step_relation.specs.GraphFits.{TargetsFit, of_c, of_u}
use Rattle.graph_laws.proofs.graphs.Passed.{After, after_found, after_is, among_is, any_at, any_true, is_among_of, points_then}
use Rattle.graph_laws.proofs.graphs.Passed.{same_test}

only_one : {A : Type 0} (x y : A) → Contains (x ∷ []) y → x ≡ y
only_one x y (n, lt, is) = let first : n ≡ 0 = omega arith in rw first at is

-- what is gathered: what was there, and the new input where none of its node was
gathered_has : (x : Input) (inputs : List Input) (y : Input) → Contains (gathered x inputs) y
    → Contains inputs y ⊎ (x ≡ y)
gathered_has x inputs y = by (has_from x.from inputs) where
  by : (b : Bool) → Contains (cond b inputs (inputs ++ x ∷ [])) y → Contains inputs y ⊎ (x ≡ y)
  by true c = inl c
  by false c = elim (Contains-append_cases inputs (x ∷ []) y c) [ inl was ↦ inl was | inr new ↦ inr (only_one x y new) ]

gathered_keeps : (x : Input) (inputs : List Input) (y : Input) → Contains inputs y → Contains (gathered x inputs) y
gathered_keeps x inputs y c = by (has_from x.from inputs) where
  by : (b : Bool) → Contains (cond b inputs (inputs ++ x ∷ [])) y
  by true = c
  by false = Contains-append_left inputs (x ∷ []) y c

gathered_from : (x : Input) (inputs : List Input) → (y : Input) × Contains (gathered x inputs) y × (y.from ≡ x.from)
gathered_from x inputs = by (has_from x.from inputs) refl where
  by : (b : Bool) → has_from x.from inputs ≡ b → (y : Input) × Contains (cond b inputs (inputs ++ x ∷ [])) y
      × (y.from ≡ x.from)
  by true is =
      let (y, c, test) = any_true (λ (z : Input). z.from == x.from) inputs is in elim (same_test y.from x.from) [
        | inl same ↦ (y, c, same.0)
        | inr ne ↦ let e : false ≡ true = sym ne.1 ∙ test in cc
      ]
  by false is = (x, Contains-append_right inputs (x ∷ []) x (0, omega arith, refl), refl)

gathered_once : (x : Input) (inputs : List Input) → AllPairs (λ (y z : Input). y.from ≢ z.from) inputs
    → AllPairs (λ (y z : Input). y.from ≢ z.from) (gathered x inputs)
gathered_once x inputs once = by (has_from x.from inputs) refl where
  by : (b : Bool) → has_from x.from inputs ≡ b
      → AllPairs (λ (y z : Input). y.from ≢ z.from) (cond b inputs (inputs ++ x ∷ []))
  by true is = once
  by false is = all_pairs_push (λ (y z : Input). y.from ≢ z.from) inputs x once
      (λ k d lt same. elim (same_test (get_or inputs k d).from x.from) [
        | inl eq ↦ let e : false ≡ true = sym is
            ∙ any_at (λ (z : Input). z.from == x.from) inputs (get_or inputs k d)
            (Contains-get_or inputs k d lt) eq.1 in cc
        | inr ne ↦ ne.0 same
      ])

pub node_at : (nodes : List Node) (k : ℕ) → k < length nodes → (n : Node) × (slice_get nodes k ≡ Some n)
node_at [] k lt = absurd (omega arith)
node_at (n ∷ nodes) k lt = (get_or (n ∷ nodes) k n, slice_get-get_or (n ∷ nodes) k n lt)

module _ (i : ℕ) (x : Input) (succs : List ℕ) (stack : List ℕ) (k : ℕ) (q p : Point)
    (a : After i x succs stack k q p) where
  inputs_has : (y : Input) → Contains p.inputs y → Contains q.inputs y ⊎ (Contains succs k × (x ≡ y))
  inputs_has y c = by (is_among k succs) refl (subst (λ (l : List Input). Contains l y) a.inputs c) where
    by : (b : Bool) → is_among k succs ≡ b → Contains (cond b (gathered x q.inputs) q.inputs) y
        → Contains q.inputs y ⊎ (Contains succs k × (x ≡ y))
    by true is d = elim (gathered_has x q.inputs y d) [ inl was ↦ inl was | inr new ↦ inr (among_is k succs is, new) ]
    by false is d = inl d

  pub inputs_keep : (y : Input) → Contains q.inputs y → Contains p.inputs y
  inputs_keep y c = subst (λ (l : List Input). Contains l y) (sym a.inputs) (by (is_among k succs)) where
    by : (b : Bool) → Contains (cond b (gathered x q.inputs) q.inputs) y
    by true = gathered_keeps x q.inputs y c
    by false = c

  inputs_new : Contains succs k → (y : Input) × Contains p.inputs y × (y.from ≡ x.from)
  inputs_new c = let (y, d, is) = gathered_from x q.inputs in (
    y,
    subst (λ (l : List Input). Contains l y) (sym (a.inputs
        ∙ ap (λ (b : Bool). cond b (gathered x q.inputs) q.inputs) (is_among_of k succs c))) d,
    is,
  )

  inputs_once : AllPairs (λ (y z : Input). y.from ≢ z.from) q.inputs
      → AllPairs (λ (y z : Input). y.from ≢ z.from) p.inputs
  inputs_once once = subst (AllPairs (λ (y z : Input). y.from ≢ z.from)) (sym a.inputs) (by (is_among k succs)) where
    by : (b : Bool) → AllPairs (λ (y z : Input). y.from ≢ z.from) (cond b (gathered x q.inputs) q.inputs)
    by true = gathered_once x q.inputs once
    by false = once

module _ (t : StateData) (st : Stack) (g : Graph) (f : GraphFits t st g) (i : ℕ) (x : Input) (succs : List ℕ)
    (from : x.from ≡ i)
    (behind : (k : ℕ) → Contains succs k ↔ Joins g.graph.edges i k) (node : Node) (at_i : IsNode g i node)
    (ready : IsReady g i) (its : IsInput t st g x) where
  abbrev then : Graph
  then = record g { points = points_then g i x succs }

  done_was : (k : ℕ) → IsDone then k → (k ≡ i) ⊎ IsDone g k
  done_was k d =
      let (q, at, after) = after_found g i x succs k d.point d.there in elim (same_test k i) [
        | inl is ↦ inl is.0
        | inr ne ↦ inr
            (record { point = q; there = at; done = sym (after.done ∙ ap (λ (b : Bool). b || q.done) ne.1) ∙ d.done })
      ]

  done_still : (k : ℕ) → IsDone g k → IsDone then k
  done_still k d =
      let (p, at, after) = after_is g i x succs k d.point d.there in
      record { point = p; there = at; done = after.done ∙ or_right (k == i) d.point.done d.done }

  done_here : IsDone then i
  done_here =
      let o : HasPoint g st i = f.nodes.points i node at_i in
      let (p, at, after) = after_is g i x succs i o.point o.there in
      record {
        point = p;
        there = at;
        done = after.done
            ∙ or_left (i == i) o.point.done (elim (same_test i i) [ inl is ↦ is.1 | inr ne ↦ absurd (ne.0 refl) ]);
      }

  given_still : (k a : ℕ) → HasInput g k a → HasInput then k a
  given_still k a d =
      let (p, at, after) = after_is g i x succs k d.point d.there in
      record {
        point = p;
        input = d.input;
        there = at;
        among = inputs_keep i x succs g.stack k d.point p after d.input d.among;
        from = d.from;
      }

  ready_still : (k : ℕ) → IsReady g k → IsReady then k
  ready_still k d a edge = given_still k a (d a edge)

  input_still : (y : Input) → IsInput t st g y → IsInput t st then y
  input_still y (of_u name r k called row facts) =
      of_u name r (record { chosen = k.chosen; node = k.node; to = k.to; found = k.found }) called row facts
  input_still y (of_c n at called row facts) = of_c n at called row facts

  stand : (k : ℕ) (p : Point) (y : Input) → slice_get then.points k ≡ Some p → Contains p.inputs y
      → Stands t st then k y
  stand k p y at c =
      let (q, at_q, after) = after_found g i x succs k p at in elim (inputs_has i x succs g.stack k q p after y c) [
        | inl was ↦ let z : Stands t st g k y = f.inputs.stand k q y at_q was in
            record { edge = z.edge; done = done_still y.from z.done; its = input_still y z.its }
        | inr new ↦ subst (λ (z : Input). Stands t st then k z) new.1 (record {
          edge = subst (λ (n : ℕ). Joins g.graph.edges n k) (sym from) ((behind k).0 new.0);
          done = subst (IsDone then) (sym from) done_here;
          its = input_still x its;
        })
      ]

  given : (k a : ℕ) → Joins g.graph.edges a k → IsDone then a → HasInput then k a
  given k a edge d = elim (done_was a d) [
    | inl is ↦
        let o : HasPoint g st k = f.nodes.points k (at_end k a edge).0 (at_end k a edge).1 in
        let (p, at, after) = after_is g i x succs k o.point o.there in
        let (y, c, same) = inputs_new i x succs g.stack k o.point p after
        ((behind k).1 (subst (λ (n : ℕ). Joins g.graph.edges n k) is edge)) in
        record { point = p; input = y; there = at; among = c; from = same ∙ (from ∙ sym is) }
    | inr was ↦ given_still k a (f.inputs.given k a edge was)
  ] where
    at_end : (k a : ℕ) → Joins g.graph.edges a k → (n : Node) × IsNode g k n
    at_end k a edge = node_at g.graph.nodes k (f.nodes.ends a k edge).1

  inputs_then : InputsFit t st then
  inputs_then = record {
    ready = λ k d. elim (done_was k d) [
      | inl is ↦ ready_still k (subst (IsReady g) (sym is) ready)
      | inr was ↦ ready_still k (f.inputs.ready k was)
    ];
    stand = stand;
    given = given;
    once = λ k p at. let (q, at_q, after) = after_found g i x succs k p at in
        inputs_once i x succs g.stack k q p after (f.inputs.once k q at_q);
  }

  points : (k : ℕ) (n : Node) → IsNode g k n → HasPoint then st k
  points k n at =
      let o : HasPoint g st k = f.nodes.points k n at in
      let (p, at_p, after) = after_is g i x succs k o.point o.there in record {
        point = p;
        there = at_p;
        stack = elim after.its_stack [ inl is ↦ is ∙ f.nodes.named | inr is ↦ is ∙ o.stack ];
        node = elim after.node [ inl is ↦ is | inr is ↦ is ∙ o.node ];
      }

  nodes_then : NodesFit st then
  nodes_then = record {
    named = f.nodes.named;
    acyclic = f.nodes.acyclic;
    items = f.nodes.items;
    only_items = f.nodes.only_items;
    one_update = f.nodes.one_update;
    one_cleanup = f.nodes.one_cleanup;
    points = points;
    ends = f.nodes.ends;
  }

  edges_then : EdgesFit t st then
  edges_then = record {
    needed = f.edges.needed;
    needs = f.edges.needs;
    behind = λ a c n r at k. f.edges.behind a c n r at (record { node = k.node; found = k.found });
  }

  targets_then : TargetsFit t st then
  targets_then = record {
    updates = f.targets.updates;
    cleanups = λ c r k. f.targets.cleanups c r (record { node = k.node; found = k.found });
    rows = λ n r at is. rows n r (f.targets.rows n r at is);
    old = f.targets.old;
  } where
    rows : (n : ℕ) (r : Row) → ((j : ℕ) × Aims t st g j r.name r) ⊎ ((j : ℕ) × IsNode g j (C n))
        → ((j : ℕ) × Aims t st then j r.name r) ⊎ ((j : ℕ) × IsNode g j (C n))
    rows n r (inl (j, k)) = inl (j, record { chosen = k.chosen; node = k.node; to = k.to; found = k.found })
    rows n r (inr there) = inr there

  pub graph_passed : GraphFits t st then
  graph_passed = record { nodes = nodes_then; edges = edges_then; targets = targets_then; inputs = inputs_then }
