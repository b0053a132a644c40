-- The points alone, once one is put at a place.
use Rattle.std.proofs.Common.{◌≡◌, ◌∙◌, ℕ, List, set, ap}
use Rattle.std.proofs.lemmas.List.{map-set}
use Rattle.sync_points.specs.declared.point.Point.{Point}
use Rattle.sync_points.specs.declared.sync_point.SyncPoint.{SyncPoint}
use Rattle.sync_points.specs.Points.{own_points, replaced}

pub alone_put : (points inside : List SyncPoint) → inside ≡ points → (i : ℕ) (x y : SyncPoint) (p : Point) → y ≡ replaced p x
    → own_points (set inside i y) ≡ set (own_points points) i p
alone_put points inside e i x y p is =
    ap (λ ps. own_points (set ps i y)) e ∙ map-set (λ (q : SyncPoint). q.point) points i y ∙ ap (λ (q : SyncPoint). set (own_points points) i q.point) is
