-- What a point's write leaves of the graphs.
use Rattle.std.proofs.Common.{◌≡◌, ◌≢◌, ◌⊎◌, inl, inr, ℕ, cond, List, [], ◌∷◌, Some, refl, sym, ap, ◌∙◌}
use Rattle.std.specs.Str.{bytes_eq}
use Rattle.std.proofs.lemmas.Slice.Eq.{bytes_eq-Decides}
use Rattle.heat_plan.specs.Tables.{at}
use Rattle.sync_points.specs.declared.point.Point.{Point}
use Rattle.step_relation.specs.Changes.{put_point, with_point}
use Rattle.step_relation.specs.State.{graph_at, graph_key}
use Rattle.step_relation.specs.declared.Graph.{Graph}
use Rattle.history_laws.proofs.tables.Tables.{cases}

pub point_here : (p : Point) (gs : List Graph) (g : Graph) → graph_at gs p.stack ≡ Some g
    → graph_at (put_point p gs) p.stack ≡ Some (with_point p g)
unfolding at put_point
point_here p [] g h = cc
point_here p (x ∷ xs) g h = elim (cases bytes_eq bytes_eq-Decides graph_key x.stack p.stack) [
  | inl is ↦ let e : Some x ≡ Some g = rw is.0 at h in let f : x ≡ g = cc in
      rw (is.0, is.0) (ap (λ (y : Graph). Some (with_point p y)) f)
  | inr not ↦ rw (not.0, not.0) (point_here p xs g (rw not.0 at h))
]

pub point_else : (p : Point) (gs : List Graph) (n : List ℕ) → p.stack ≢ n → graph_at (put_point p gs) n ≡ graph_at gs n
unfolding at put_point
point_else p [] n ne = refl
point_else p (x ∷ xs) n ne = elim (cases bytes_eq bytes_eq-Decides graph_key x.stack p.stack) [
  | inl is ↦ elim (cases bytes_eq bytes_eq-Decides graph_key x.stack n) [
    | inl same ↦ absurd (ne (sym is.1 ∙ same.1))
    | inr not ↦ rw (is.0, not.0) refl
  ]
  | inr not ↦ rw not.0 (ap (cond (bytes_eq x.stack n) (Some x)) (point_else p xs n ne))
]

-- a graph found after a point's write was there, but for its points
pub point_found : (p : Point) (gs : List Graph) (n : List ℕ) (g : Graph) → graph_at (put_point p gs) n ≡ Some g
    → (o : Graph) × (graph_at gs n ≡ Some o) × ((g ≡ with_point p o) ⊎ (g ≡ o))
unfolding at put_point
point_found p [] n g h = cc
point_found p (x ∷ xs) n g h = elim (cases bytes_eq bytes_eq-Decides graph_key x.stack p.stack) [
  | inl is ↦ elim (cases bytes_eq bytes_eq-Decides graph_key x.stack n) [
    | inl same ↦ let e : Some (with_point p x) ≡ Some g = rw (is.0, same.0) at h in (x, rw same.0 refl, inl cc)
    | inr not ↦ (g, rw not.0 (rw (is.0, not.0) at h), inr refl)
  ]
  | inr no_ ↦ elim (cases bytes_eq bytes_eq-Decides graph_key x.stack n) [
    | inl same ↦ let e : Some x ≡ Some g = rw (no_.0, same.0) at h in (x, rw same.0 refl, inr cc)
    | inr not ↦ rw not.0 (point_found p xs n g (rw (no_.0, not.0) at h))
  ]
]
