-- What a point has gathered once an input is given.
use Rattle.std.proofs.Common.{◌≡◌, ◌<◌, ◌+◌, ◌⊎◌, inl, ℕ, Bool, true, false, cond, List, [], ◌∷◌, ◌++◌, Some, refl, sym}
use Rattle.std.proofs.Common.{ap, ◌∙◌, subst, length, get_or, take}
use Rattle.std.specs.Prelude.{Contains, map, ◌==◌}
use Rattle.std.proofs.lemmas.Bool.Decides.{Decides-eqb}
use Rattle.std.proofs.lemmas.List.{map_more}
use Rattle.std.proofs.lemmas.List.Elements.{Contains-append_left, Contains-get_or, Contains-push, Contains-push_cases}
use Rattle.std.proofs.lemmas.List.Folds.{Any-from_list_any, list_any_at}
use Rattle.sync_points.specs.declared.point.Input.{Input}
use Rattle.sync_points.specs.declared.point.Point.{Point}
use Rattle.core_state.specs.declared.graph.Graph.{Graph}
use Rattle.step_relation.specs.Inputs.{gathered, has_from, is_among, point_after}
use Rattle.step_reads.specs.Points.{point_with}

pub among_true : (succs : List ℕ) (k : ℕ) → Contains succs k → is_among k succs ≡ true
among_true succs k (n, lt, e) =
    list_any_at (λ (m : ℕ). m == k) succs n k lt (ap (λ (m : ℕ). m == k) e ∙ (Decides-eqb k k).1 refl)

-- the point of a node behind the one that is done
pub point_given : (g : Graph) (i : ℕ) (x : Input) (succs : List ℕ) (k : ℕ) → Contains succs k
    → point_after g i x succs k ≡ point_with g i k (Some x)
point_given g i x succs k c = rw (among_true succs k c) refl

pub points_more : (g : Graph) (i : ℕ) (x : Input) (succs : List ℕ) (n y : ℕ) (points : List Point) → n < length succs
    → y ≡ get_or succs n y
    → points ≡ map (point_after g i x succs) (i ∷ take n succs)
    → points ++ point_with g i y (Some x) ∷ [] ≡ map (point_after g i x succs) (i ∷ take (n + 1) succs)
points_more g i x succs n y points lt is h =
    let c : Contains succs y = subst (Contains succs) (sym is) (Contains-get_or succs n y lt) in
    rw (h, map_more (point_after g i x succs) succs n y lt, ← is, ← point_given g i x succs y c) refl

module _ (x : Input) (inputs : List Input) where
  -- what was there is there
  pub gathered_keeps : (y : Input) → Contains inputs y → Contains (gathered x inputs) y
  gathered_keeps y c = by (has_from x.from inputs) where
    by : (b : Bool) → Contains (cond b inputs (inputs ++ x ∷ [])) y
    by true = c
    by false = Contains-append_left inputs (x ∷ []) y c

  -- an input of its node is there
  pub gathered_has : (y : Input) × Contains (gathered x inputs) y × (y.from ≡ x.from)
  gathered_has = by (has_from x.from inputs) refl where
    by : (b : Bool) → has_from x.from inputs ≡ b → (y : Input) × Contains (cond b inputs (inputs ++ x ∷ [])) y ×
        (y.from ≡ x.from)
    by true e =
        let (k, y, lt, is, test) = Any-from_list_any (λ (z : Input). z.from == x.from) inputs e in
        (y, (k, lt, is), (Decides-eqb y.from x.from).0 test)
    by false e = (x, Contains-push inputs x, refl)

  -- what is there was there, or is the input that was given
  pub gathered_of : (y : Input) → Contains (gathered x inputs) y → Contains inputs y ⊎ (x ≡ y)
  gathered_of y c = by (has_from x.from inputs) c where
    by : (b : Bool) → Contains (cond b inputs (inputs ++ x ∷ [])) y → Contains inputs y ⊎ (x ≡ y)
    by true c = inl c
    by false c = Contains-push_cases inputs x y c
