-- Fresh points, by the nodes or by what is before each.
use Rattle.std.proofs.Common.{◌≡◌, ◌+◌, ℕ, false, List, [], ◌∷◌, length, refl, ap, arith}
use Rattle.traversal_graph.specs.declared.shape.Node.{Node}
use Rattle.sync_points.specs.declared.point.Point.{Point}
use Rattle.sync_points.specs.Numbers.{fresh_points as fresh_with}
use Rattle.sync_points.specs.Points.{own_points}
use Rattle.core_state.specs.Graphs.{fresh_points}

pub fresh_alone : (stack : List ℕ) (place : ℕ) (preds : List (List ℕ)) (nodes : List Node) → length preds ≡ length nodes
    → own_points (fresh_with stack place preds) ≡ fresh_points stack place nodes
fresh_alone stack place [] [] e = refl
fresh_alone stack place [] (n ∷ nodes) e = absurd (omega (arith, e))
fresh_alone stack place (ps ∷ preds) [] e = absurd (omega (arith, e))
fresh_alone stack place (ps ∷ preds) (n ∷ nodes) e =
    ap (λ (points : List Point). record { stack = stack; node = place; inputs = []; done = false } ∷ points)
    (fresh_alone stack (place + 1) preds nodes (omega (arith, e)))
