-- The points of a graph once a node is done.
use Rattle.std.proofs.Common.{◌≡◌, ◌≢◌, ◌<◌, ◌⊎◌, inl, inr, ℕ, zero, suc, Bool, true, false, List, [], ◌∷◌, None, Some}
use Rattle.std.proofs.Common.{refl, sym, ap, ◌∙◌, subst, arith, length, get_or}
use Rattle.std.specs.Prelude.{Contains, Option, map, slice_get, slice_set, ◌==◌, ◌||◌}
use Rattle.std.proofs.lemmas.Bool.Decides.{Decides-eqb, eqb_tells}
use Rattle.std.proofs.lemmas.List.{length-set}
use Rattle.std.proofs.lemmas.Option.{slice_get_within, slice_get-get_or}
use Rattle.sync_points.specs.declared.point.Input.{Input}
use Rattle.sync_points.specs.declared.point.Point.{Point}
use Rattle.core_state.specs.Changes.{with_point}
use Rattle.core_state.specs.Reads.{IsDone}
use Rattle.core_state.specs.declared.graph.Graph.{Graph}
use Rattle.step_relation.specs.Inputs.{passed, point_after, point_at, with_points}
use Rattle.step_reads.specs.Waiting.{IsDoneThen}
use Rattle.step_reads.proofs.Tables.{Contains-cons_cases, Contains-head, Contains-tail}

set_same : {X : Type 0} (xs : List X) (i : ℕ) (y : X) → i < length xs → slice_get (slice_set xs i y) i ≡ Some y
set_same [] i y lt = absurd (omega (arith, lt))
set_same (x ∷ xs) zero y lt = refl
set_same (x ∷ xs) (suc i) y lt = set_same xs i y (omega (arith, lt))

set_other : {X : Type 0} (xs : List X) (i k : ℕ) (y : X) → i ≢ k → slice_get (slice_set xs i y) k ≡ slice_get xs k
set_other [] i k y ne = refl
set_other (x ∷ xs) zero zero y ne = absurd (ne refl)
set_other (x ∷ xs) zero (suc k) y ne = refl
set_other (x ∷ xs) (suc i) zero y ne = refl
set_other (x ∷ xs) (suc i) (suc k) y ne = set_other xs i k y (λ e. ne (ap suc e))

pub among_or_not : (ks : List ℕ) (k : ℕ) → Contains ks k ⊎ ¬ Contains ks k
among_or_not [] k = inr (λ (n, lt, e). omega (arith, lt))
among_or_not (j ∷ ks) k = by (eqb_tells j k) (among_or_not ks k) where
  by : ((j == k ≡ true) × (j ≡ k)) ⊎ ((j == k ≡ false) × (j ≢ k)) → Contains ks k ⊎ ¬ Contains ks k
      → Contains (j ∷ ks) k ⊎ ¬ Contains (j ∷ ks) k
  by (inl is) rest = inl (subst (Contains (j ∷ ks)) is.1 (Contains-head j ks))
  by (inr not) (inl c) = inl (Contains-tail j ks k c)
  by (inr not) (inr none) = inr (λ c. elim (Contains-cons_cases j ks k c) [ inl e ↦ not.1 e | inr t ↦ none t ])

module _ (f : ℕ → Point) (placed : (k : ℕ) → (f k).node ≡ k) where
  graph_same : (ks : List ℕ) (g : Graph) → (with_points (map f ks) g).graph ≡ g.graph
  graph_same [] g = refl
  graph_same (k ∷ ks) g = graph_same ks (with_point (f k) g)

  size_same : (ks : List ℕ) (g : Graph) → length (with_points (map f ks) g).points ≡ length g.points
  size_same [] g = refl
  size_same (k ∷ ks) g = size_same ks (with_point (f k) g) ∙ length-set g.points (f k).node (f k)

  point_other : (ks : List ℕ) (g : Graph) (k : ℕ) → ¬ Contains ks k → slice_get (with_points (map f ks) g).points k ≡
      slice_get g.points k
  point_other [] g k not = refl
  point_other (j ∷ ks) g k not = point_other ks (with_point (f j) g) k (λ c. not (Contains-tail j ks k c))
      ∙ set_other g.points (f j).node k (f j)
      (λ e. not (subst (Contains (j ∷ ks)) (sym (placed j) ∙ e) (Contains-head j ks)))

  point_here : (ks : List ℕ) (g : Graph) (k : ℕ) → Contains ks k → k < length g.points
      → slice_get (with_points (map f ks) g).points k ≡ Some (f k)
  point_here [] g k (n, in_, e) lt = absurd (omega (arith, in_))
  point_here (j ∷ ks) g k c lt =
      by (among_or_not ks k)
      (λ rest. point_here ks (with_point (f j) g) k rest (rw (length-set g.points (f j).node (f j)) lt))
    where
      by : Contains ks k ⊎ ¬ Contains ks k
          → (Contains ks k → slice_get (with_points (map f ks) (with_point (f j) g)).points k ≡ Some (f k))
          → slice_get (with_points (map f ks) (with_point (f j) g)).points k ≡ Some (f k)
      by (inl rest) later = later rest
      by (inr none) later = elim (Contains-cons_cases j ks k c) [
        | inl e ↦ point_other ks (with_point (f j) g) k none
            ∙ (ap (slice_get (slice_set g.points (f j).node (f j))) (sym e ∙ sym (placed j))
            ∙ (set_same g.points (f j).node (f j) (subst (λ (n : ℕ). n < length g.points) (sym e ∙ sym (placed j)) lt)
            ∙ ap (λ (n : ℕ). Some (f n)) e))
        | inr rest ↦ absurd (none rest)
      ]

module _ (g : Graph) (i : ℕ) (x : Input) (succs : List ℕ) where
  -- the graph keeps its nodes and edges
  pub passed_graph : (passed g i x succs).graph ≡ g.graph
  passed_graph = graph_same (point_after g i x succs) (λ k. refl) (i ∷ succs) g

  -- the point of a node that is written
  pub passed_here : (k : ℕ) → Contains (i ∷ succs) k → k < length g.points
      → slice_get (passed g i x succs).points k ≡ Some (point_after g i x succs k)
  passed_here k c lt = point_here (point_after g i x succs) (λ k. refl) (i ∷ succs) g k c lt

  -- that of another
  pub passed_other : (k : ℕ) → ¬ Contains (i ∷ succs) k → slice_get (passed g i x succs).points k ≡ slice_get g.points k
  passed_other k not = point_other (point_after g i x succs) (λ k. refl) (i ∷ succs) g k not

  -- a point stands then where one stood before
  pub passed_was : (k : ℕ) (p : Point) → slice_get (passed g i x succs).points k ≡ Some p
      → (q : Point) × (slice_get g.points k ≡ Some q)
  passed_was k p h = by (slice_get g.points k) refl where
    within : k < length g.points
    within = subst (λ (n : ℕ). k < n) (size_same (point_after g i x succs) (λ k. refl) (i ∷ succs) g)
        (slice_get_within (passed g i x succs).points k p h)

    by : (o : Option Point) → slice_get g.points k ≡ o → (q : Point) × (slice_get g.points k ≡ Some q)
    by (Some q) e = (q, e)
    by None e = let some : slice_get g.points k ≡ Some (get_or g.points k p) = slice_get-get_or g.points k p within in
        cc

  point_is : (k : ℕ) (q : Point) → slice_get g.points k ≡ Some q → point_at g k ≡ q
  point_is k q there = rw there refl

  pub done_then : (k : ℕ) → IsDoneThen g i k → IsDone (passed g i x succs) k
  done_then k h = elim (among_or_not (i ∷ succs) k) [
    | inl c ↦ record {
      point = point_after g i x succs k;
      there = passed_here k c (slice_get_within g.points k h.point h.there);
      done = or_done (k == i) refl h.done;
    }
    | inr not ↦ record { point = h.point; there = passed_other k not ∙ h.there; done = still h.done not }
  ]
    where
      or_done : (b : Bool) → (k == i) ≡ b → (k ≡ i) ⊎ (h.point.done ≡ true) → (b || (point_at g k).done) ≡ true
      or_done true e d = refl
      or_done false e (inl is) = let t : (k == i) ≡ true = (Decides-eqb k i).1 is in cc
      or_done false e (inr d) = ap (λ (p : Point). p.done) (point_is k h.point h.there) ∙ d

      still : (k ≡ i) ⊎ (h.point.done ≡ true) → ¬ Contains (i ∷ succs) k → h.point.done ≡ true
      still (inl is) not = absurd (not (subst (Contains (i ∷ succs)) (sym is) (Contains-head i succs)))
      still (inr d) not = d

  pub done_before : (k : ℕ) → IsDone (passed g i x succs) k → IsDoneThen g i k
  done_before k h = elim (among_or_not (i ∷ succs) k) [
    | inl c ↦ (let (q, there) = passed_was k h.point h.there in
        let some : Some h.point ≡ Some (point_after g i x succs k) =
        sym h.there ∙ passed_here k c (slice_get_within g.points k q there) in
        let is : h.point ≡ point_after g i x succs k = cc in
        record {
          point = q;
          there = there;
          done = apart q there (k == i) refl (sym (ap (λ (p : Point). p.done) is) ∙ h.done);
        })
    | inr not ↦ record { point = h.point; there = sym (passed_other k not) ∙ h.there; done = inr h.done }
  ]
    where
      apart : (q : Point) → slice_get g.points k ≡ Some q → (b : Bool) → (k == i) ≡ b
          → (b || (point_at g k).done) ≡ true → (k ≡ i) ⊎ (q.done ≡ true)
      apart q there true e d = inl ((Decides-eqb k i).0 e)
      apart q there false e d = inr (sym (ap (λ (p : Point). p.done) (point_is k q there)) ∙ d)
