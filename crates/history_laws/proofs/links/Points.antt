-- What the points of a graph are when a node is done and gives its input.
use Rattle.std.proofs.Common.{◌≡◌, ◌<◌, ◌⊎◌, inl, inr, ℕ, Bool, true, false, cond, List, [], ◌∷◌, ◌++◌, map, Option}
use Rattle.std.proofs.Common.{Some, None, refl, sym, ap, ◌∙◌, subst, arith}
use Rattle.std.specs.Prelude.{Contains, slice_get, unwrap_or}
use Rattle.std.specs.List.{AllByRecursion}
use Rattle.std.proofs.lemmas.Bool.Decides.{eqb_tells}
use Rattle.std.proofs.lemmas.List.Elements.{Contains-append_cases}
use Rattle.sync_points.specs.declared.point.Input.{Input}
use Rattle.sync_points.specs.declared.point.Point.{Point}
use Rattle.step_relation.specs.Changes.{with_point}
use Rattle.step_relation.specs.Reads.{IsDone}
use Rattle.step_relation.specs.declared.Graph.{Graph}
use Rattle.step_relation.specs.Inputs.{gathered, has_from, is_among, passed, passed_points, point_after, point_at}
use Rattle.step_relation.specs.Inputs.{with_points}
use Rattle.step_relation.specs.Numbered.{GraphBelow}
use Rattle.history_laws.proofs.links.Numbers.{PointBelow}
use Rattle.history_laws.proofs.tables.Frame.{only_one}
use Rattle.history_laws.proofs.tables.Tables.{set_found}

-- nodes and edges stay
pub points_graph : (ps : List Point) (g : Graph) → (with_points ps g).graph ≡ g.graph
points_graph [] g = refl
points_graph (p ∷ ps) g = points_graph ps (with_point p g)

module _ (row : ℕ) (g : Graph) (below : GraphBelow row g) (i : ℕ) (x : Input) (x_below : x.row < row)
    (succs : List ℕ) where
  old_below : (k : ℕ) (o : Option Point) → slice_get g.points k ≡ o
      → PointBelow row (unwrap_or o (record { stack = g.stack; node = k; inputs = []; done = false }))
  old_below k None at y (n, lt, is) = absurd (omega arith)
  old_below k (Some p) at y has = below.inputs k p y at has

  gathered_below : (inputs : List Input) → ((y : Input) → Contains inputs y → y.row < row) → (y : Input) → Contains
      (gathered x inputs) y → y.row < row
  gathered_below inputs old = by (has_from x.from inputs) where
    by : (b : Bool) → (y : Input) → Contains (cond b inputs (inputs ++ x ∷ [])) y → y.row < row
    by true y has = old y has
    by false y has = elim (Contains-append_cases inputs (x ∷ []) y has)
        [ inl was ↦ old y was | inr new ↦ rw (← only_one x y new) x_below ]

  after_below : (k : ℕ) → PointBelow row (point_after g i x succs k)
  after_below k = by (is_among k succs) where
    was : (y : Input) → Contains (point_at g k).inputs y → y.row < row
    was y has = old_below k (slice_get g.points k) refl y has

    by : (b : Bool) → (y : Input) → Contains (cond b (gathered x (point_at g k).inputs) (point_at g k).inputs) y
        → y.row < row
    by true y has = gathered_below (point_at g k).inputs was y has
    by false y has = was y has

  all_below : (ks : List ℕ) → AllByRecursion (PointBelow row) (map (point_after g i x succs) ks)
  all_below [] = tt
  all_below (k ∷ ks) = (after_below k, all_below ks)

  pub passed_below : AllByRecursion (PointBelow row) (passed_points g i x succs)
  passed_below = all_below (i ∷ succs)

-- a node that is done then is the node itself, or was done
module _ (g : Graph) (i : ℕ) where
  abbrev IsOld : ℕ → Type 0
  IsOld k = (k ≡ i) ⊎ IsDone g k

  with_done : (ps : List Point) (x : Graph) → AllByRecursion (λ (p : Point). p.done ≡ true → IsOld p.node) ps →
      ((k : ℕ) → IsDone x k → IsOld k)
      → (k : ℕ) → IsDone (with_points ps x) k → IsOld k
  with_done [] x all old k done = old k done
  with_done (p ∷ ps) x all old k done = with_done ps (with_point p x) all.1 step k done where
    step : (k : ℕ) → IsDone (with_point p x) k → IsOld k
    step k d = elim (set_found x.points p.node p k d.point d.there) [
      | inl is ↦ subst IsOld (sym is.0) (all.0 (ap (λ (q : Point). q.done) (sym is.1) ∙ d.done))
      | inr was ↦ old k (record { point = d.point; there = was; done = d.done })
    ]

  point_done : (k : ℕ) (o : Option Point) → slice_get g.points k ≡ o
      → (unwrap_or o (record { stack = g.stack; node = k; inputs = []; done = false })).done ≡ true → IsDone g k
  point_done k None at is = cc
  point_done k (Some p) at is = record { point = p; there = at; done = is }

  after_done : (x : Input) (succs : List ℕ) (k : ℕ) → (point_after g i x succs k).done ≡ true → IsOld k
  after_done x succs k is = elim (eqb_tells k i) [
    | inl t ↦ inl t.1
    | inr f ↦ inr (point_done k (slice_get g.points k) refl (rw f.0 at is))
  ]

  all_done : (x : Input) (succs ks : List ℕ) → AllByRecursion (λ (p : Point). p.done ≡ true → IsOld p.node)
      (map (point_after g i x succs) ks)
  all_done x succs [] = tt
  all_done x succs (k ∷ ks) = (after_done x succs k, all_done x succs ks)

  pub passed_done : (x : Input) (succs : List ℕ) (k : ℕ) → IsDone (passed g i x succs) k → (k ≡ i) ⊎ IsDone g k
  passed_done x succs k done = with_done (passed_points g i x succs) g (all_done x succs (i ∷ succs))
      (λ m d. inr d) k done
