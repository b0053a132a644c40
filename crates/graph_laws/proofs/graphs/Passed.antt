-- A graph's points after a node is done: each keeps what it had, those behind get its input: `after_found`, `after_is`.
use Rattle.std.proofs.Common.{◌≡◌, ◌≢◌, ◌<◌, ◌⊎◌, inl, inr, ℕ, zero, suc, Bool, true, false, cond, List, [], ◌∷◌, map}
use Rattle.std.proofs.Common.{Option, Some, refl, sym, ap, ◌∙◌, subst, arith}
use Rattle.std.specs.List.{list_any}
use Rattle.std.specs.Prelude.{Contains, get_or, length, slice_get, slice_set, unwrap_or, ◌==◌, ◌||◌}
use Rattle.std.proofs.lemmas.Bool.Decides.{eqb_tells}
use Rattle.std.proofs.lemmas.List.Folds.{Any-from_list_any, list_any-from_Any}
use Rattle.sync_points.specs.declared.point.Input.{Input}
use Rattle.sync_points.specs.declared.point.Point.{Point}
use Rattle.core_state.specs.Changes.{with_point}
use Rattle.core_state.specs.declared.graph.Graph.{Graph}
use Rattle.step_relation.specs.Inputs.{gathered, is_among, passed, passed_points, point_after, with_points}
use Rattle.history_laws.proofs.tables.Rows.{same_or_not, same_some}
use Rattle.history_laws.proofs.tables.Tables.{set_else, set_here}

module _ {X : Type 0} (p : X → Bool) where
  pub any_true : (xs : List X) → list_any p xs ≡ true → (x : X) × Contains xs x × (p x ≡ true)
  any_true xs h = let (k, x, lt, is, test) = Any-from_list_any p xs h in (x, (k, lt, is), test)

  pub any_at : (xs : List X) (x : X) → Contains xs x → p x ≡ true → list_any p xs ≡ true
  any_at xs x c test = list_any-from_Any p xs (c.0, x, c.1, c.2, test)

pub in_list : (ks : List ℕ) (k : ℕ) → Contains ks k ⊎ ¬ Contains ks k
in_list [] k = inr (λ h. absurd (omega arith))
in_list (n ∷ ks) k = elim (same_or_not n k) [
  | inl is ↦ inl (0, omega arith, is)
  | inr ne ↦ elim (in_list ks k) [
    | inl h ↦ inl (suc h.0, omega arith, h.2)
    | inr out ↦ inr (λ h. by h.0 h.1 h.2 ne out)
  ]
] where
  by : (m : ℕ) → m < length (n ∷ ks) → get_or (n ∷ ks) m k ≡ k → n ≢ k → ¬ Contains ks k → ⊥
  by zero lt is ne out = ne is
  by (suc m) lt is ne out = out (m, omega arith, is)

set_there : {A : Type 0} (xs : List A) (i : ℕ) (p : A) (k : ℕ) (q : A) → slice_get (slice_set xs i p) k ≡ Some q
    → (o : A) × (slice_get xs k ≡ Some o)
set_there [] i p k q h = cc
set_there (x ∷ xs) zero p zero q h = (x, refl)
set_there (x ∷ xs) zero p (suc k) q h = (q, h)
set_there (x ∷ xs) (suc i) p zero q h = (x, refl)
set_there (x ∷ xs) (suc i) p (suc k) q h = set_there xs i p k q h

-- the points after these were written
abbrev pub set_points : List Point → List Point → List Point
set_points [] ps = ps
set_points (p ∷ more) ps = set_points more (slice_set ps p.node p)

pub with_points_is : (ps : List Point) (g : Graph) → with_points ps g ≡ record g { points = set_points ps g.points }
with_points_is [] g = refl
with_points_is (p ∷ ps) g = with_points_is ps (with_point p g)

module _ (v : ℕ → Point) (place : (k : ℕ) → (v k).node ≡ k) where
  points_else : (ks : List ℕ) (ps : List Point) (k : ℕ) → ¬ Contains ks k
      → slice_get (set_points (map v ks) ps) k ≡ slice_get ps k
  points_else [] ps k out = refl
  points_else (n ∷ ks) ps k out = points_else ks (slice_set ps (v n).node (v n)) k
      (λ h. out (suc h.0, omega arith, h.2))
      ∙ set_else ps (v n).node (v n) k (λ e. out (0, omega arith, sym (e ∙ place n)))

  points_still : (ks : List ℕ) (ps : List Point) (k : ℕ) → slice_get ps k ≡ Some (v k)
      → slice_get (set_points (map v ks) ps) k ≡ Some (v k)
  points_still [] ps k at = at
  points_still (n ∷ ks) ps k at = points_still ks (slice_set ps (v n).node (v n)) k (elim (same_or_not n k) [
    | inl is ↦ subst (λ (m : ℕ). slice_get (slice_set ps (v m).node (v m)) k ≡ Some (v k)) (sym is)
        (subst (λ (m : ℕ). slice_get (slice_set ps m (v k)) k ≡ Some (v k)) (sym (place k))
        (set_here ps k (v k) (v k) at))
    | inr ne ↦ set_else ps (v n).node (v n) k (λ e. ne (sym (e ∙ place n))) ∙ at
  ])

  points_here : (ks : List ℕ) (ps : List Point) (k : ℕ) (q : Point) → Contains ks k → slice_get ps k ≡ Some q
      → slice_get (set_points (map v ks) ps) k ≡ Some (v k)
  points_here [] ps k q h at = absurd (omega arith)
  points_here (n ∷ ks) ps k q h at = elim (same_or_not n k) [
    | inl is ↦ points_still ks (slice_set ps (v n).node (v n)) k
        (subst (λ (m : ℕ). slice_get (slice_set ps (v m).node (v m)) k ≡ Some (v k)) (sym is)
        (subst (λ (m : ℕ). slice_get (slice_set ps m (v k)) k ≡ Some (v k)) (sym (place k)) (set_here ps k (v k) q at)))
    | inr ne ↦ points_here ks (slice_set ps (v n).node (v n)) k q (rest h.0 h.1 h.2 ne)
        (set_else ps (v n).node (v n) k (λ e. ne (sym (e ∙ place n))) ∙ at)
  ] where
    rest : (m : ℕ) → m < length (n ∷ ks) → get_or (n ∷ ks) m k ≡ k → n ≢ k → Contains ks k
    rest zero lt is ne = absurd (ne is)
    rest (suc m) lt is ne = (m, omega arith, is)

  points_were : (ks : List ℕ) (ps : List Point) (k : ℕ) (p : Point) → slice_get (set_points (map v ks) ps) k ≡ Some p
      → (q : Point) × (slice_get ps k ≡ Some q)
  points_were [] ps k p at = (p, at)
  points_were (n ∷ ks) ps k p at =
      let (o, at_o) = points_were ks (slice_set ps (v n).node (v n)) k p at in set_there ps (v n).node (v n) k o at_o

-- what becomes of the point q of the node k when the node i is done and gives x to these nodes
pub record After (i : ℕ) (x : Input) (succs : List ℕ) (stack : List ℕ) (k : ℕ) (q p : Point) : Type 0 where
  pub inputs : p.inputs ≡ cond (is_among k succs) (gathered x q.inputs) q.inputs
  pub done : p.done ≡ ((k == i) || q.done)
  pub its_stack : (p.stack ≡ stack) ⊎ (p.stack ≡ q.stack)
  pub node : (p.node ≡ k) ⊎ (p.node ≡ q.node)

pub among_is : (k : ℕ) (ks : List ℕ) → is_among k ks ≡ true → Contains ks k
among_is k ks h = let (n, c, test) = any_true (λ (m : ℕ). m == k) ks h in elim (eqb_tells n k) [
  | inl is ↦ subst (Contains ks) is.1 c
  | inr ne ↦ let e : false ≡ true = sym ne.0 ∙ test in cc
]

pub is_among_of : (k : ℕ) (ks : List ℕ) → Contains ks k → is_among k ks ≡ true
is_among_of k ks c = any_at (λ (m : ℕ). m == k) ks k c
    (elim (eqb_tells k k) [ inl is ↦ is.0 | inr ne ↦ absurd (ne.1 refl) ])

not_true : (b : Bool) → (b ≡ true → ⊥) → b ≡ false
not_true true h = absurd (h refl)
not_true false h = refl

pub same_test : (k i : ℕ) → ((k ≡ i) × ((k == i) ≡ true)) ⊎ ((k ≢ i) × ((k == i) ≡ false))
same_test k i = elim (eqb_tells k i) [ inl is ↦ inl (is.1, is.0) | inr ne ↦ inr (ne.1, ne.0) ]

module _ (g : Graph) (i : ℕ) (x : Input) (succs : List ℕ) where
  abbrev v : ℕ → Point
  v = point_after g i x succs

  abbrev pub points_then : List Point
  points_then = set_points (passed_points g i x succs) g.points

  pub passed_is : passed g i x succs ≡ record g { points = points_then }
  passed_is = with_points_is (passed_points g i x succs) g

  -- a point that was there is there, with what it became
  pub after_is : (k : ℕ) (q : Point) → slice_get g.points k ≡ Some q
      → (p : Point) × (slice_get points_then k ≡ Some p) × After i x succs g.stack k q p
  after_is k q at = elim (in_list (i ∷ succs) k) [
    | inl c ↦ (
      v k,
      points_here v (λ n. refl) (i ∷ succs) g.points k q c at,
      record {
        inputs = ap (λ (o : Point). cond (is_among k succs) (gathered x o.inputs) o.inputs) its;
        done = ap (λ (o : Point). (k == i) || o.done) its;
        its_stack = inl refl;
        node = inl refl;
      },
    )
    | inr out ↦ (
      q,
      points_else v (λ n. refl) (i ∷ succs) g.points k out ∙ at,
      record {
        inputs = sym (ap (λ (b : Bool). cond b (gathered x q.inputs) q.inputs)
            (not_true (is_among k succs) (λ e. off out (among_is k succs e))));
        done = elim (same_test k i) [
          | inl is ↦ absurd (out (0, omega arith, sym is.0))
          | inr ne ↦ sym (ap (λ (b : Bool). b || q.done) ne.1)
        ];
        its_stack = inr refl;
        node = inr refl;
      },
    )
  ] where
    its : unwrap_or (slice_get g.points k) (record { stack = g.stack; node = k; inputs = []; done = false }) ≡ q
    its = ap (λ (o : Option Point). unwrap_or o (record { stack = g.stack; node = k; inputs = []; done = false })) at

    off : ¬ Contains (i ∷ succs) k → Contains succs k → ⊥
    off out c = out (suc c.0, let lt = c.1 in omega (arith, lt), c.2)

  -- and each was there
  pub after_found : (k : ℕ) (p : Point) → slice_get points_then k ≡ Some p
      → (q : Point) × (slice_get g.points k ≡ Some q) × After i x succs g.stack k q p
  after_found k p at =
      let (q, at_q) = points_were v (λ n. refl) (i ∷ succs) g.points k p at in
      let (p', at_p, after) = after_is k q at_q in
      (q, at_q, subst (λ (y : Point). After i x succs g.stack k q y) (same_some p' p at_p at) after)
