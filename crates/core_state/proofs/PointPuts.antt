-- A point that is put, by the place of its graph.
use Rattle.std.proofs.Common.{◌≡◌, ℕ, Bool, true, false, cond, List, [], ◌∷◌, ◌<◌, ◌∙◌, inl, inr, length, set, add-one, Some, None, refl, ap, subst, sym, arith}
use Rattle.std.proofs.lemmas.Option.{slice_get_cases}
use Rattle.std.specs.Prelude.{◌+◌, slice_get}
use Rattle.std.specs.Str.{bytes_eq}
use Rattle.std.specs.List.{position_from}
use Rattle.core_state.specs.declared.graph.Graph.{Graph}
use Rattle.sync_points.specs.declared.point.Point.{Point}
use Rattle.core_state.specs.Changes.{put_point, with_point}
use Rattle.keyed_table.proofs.Puts.{position_from-shift, position_from-none}

slice_get-next : {A : Type 0} (x : A) (xs : List A) (j : ℕ) → slice_get (x ∷ xs) (j + 1) ≡ slice_get xs j
slice_get-next x xs j = rw add-one refl

pub put_point-none : (p : Point) (gs : List Graph)
    → position_from (λ (g : Graph). bytes_eq g.stack p.stack) 0 gs ≡ None → put_point p gs ≡ gs
unfolding put_point
put_point-none p [] h = refl
put_point-none p (g ∷ gs) h = by (bytes_eq g.stack p.stack) h (λ e. put_point-none p gs (position_from-none (λ (g : Graph). bytes_eq g.stack p.stack) 1 0 gs e)) where
  by : (b : Bool) → cond b (Some 0) (position_from (λ (g : Graph). bytes_eq g.stack p.stack) 1 gs) ≡ None → (position_from (λ (g : Graph). bytes_eq g.stack p.stack) 1 gs ≡ None → put_point p gs ≡ gs) → cond b (with_point p g ∷ gs) (g ∷ put_point p gs) ≡ g ∷ gs
  by true e rest = cc
  by false e rest = ap (λ (zs : _). g ∷ zs) (rest e)

pub put_point-at : (p : Point) (gs : List Graph) (i : ℕ) (g : Graph)
    → position_from (λ (g : Graph). bytes_eq g.stack p.stack) 0 gs ≡ Some i → slice_get gs i ≡ Some g
    → set gs i (with_point p g) ≡ put_point p gs
unfolding put_point
put_point-at p [] i g h at = cc
put_point-at p (x ∷ xs) i g h at = by (bytes_eq x.stack p.stack) h (λ j found behind. put_point-at p xs j g found behind) where
  by : (b : Bool) → cond b (Some 0) (position_from (λ (g : Graph). bytes_eq g.stack p.stack) 1 xs) ≡ Some i → ((j : ℕ) → position_from (λ (g : Graph). bytes_eq g.stack p.stack) 0 xs ≡ Some j → slice_get xs j ≡ Some g → set xs j (with_point p g) ≡ put_point p xs) → set (x ∷ xs) i (with_point p g) ≡ cond b (with_point p x ∷ xs) (x ∷ put_point p xs)
  by true e rest =
      let f : 0 ≡ i = cc in
      let first : Some x ≡ Some g = subst (λ (k : ℕ). slice_get (x ∷ xs) k ≡ Some g) (sym f) at in
      let same : x ≡ g = cc in
      rw (← f, ← same) refl
  by false e rest =
      let (j, is, found) = position_from-shift (λ (g : Graph). bytes_eq g.stack p.stack) 0 xs i e in
      let behind : slice_get xs j ≡ Some g = rw (← slice_get-next x xs j, ← is) at in
      rw (is, add-one, ← rest j found behind) refl

pub put_point-set : (p : Point) (gs new : List Graph) (i : ℕ)
    → position_from (λ (g : Graph). bytes_eq g.stack p.stack) 0 gs ≡ Some i → i < length gs
    → ((g : Graph) → slice_get gs i ≡ Some g → new ≡ set gs i (with_point p g)) → new ≡ put_point p gs
put_point-set p gs new i at l is = elim (slice_get_cases gs i).1 [
  | inl there ↦ let (g, lt, found, own) = there in is g found ∙ put_point-at p gs i g at found
  | inr past ↦ absurd (omega (arith, l, past.0))
]
