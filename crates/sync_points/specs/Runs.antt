-- What a run of calls does to a list of points.
use Rattle.std.specs.Prelude.{◌≡◌, ◌⊎◌, ℕ, List, [], ◌∷◌, None, Some}
use Rattle.sync_points.specs.declared.sync_point.SyncPoint.{SyncPoint}
use Rattle.sync_points.specs.declared.ops.PointOp.{PointOp}
use Rattle.sync_points.specs.declared.ops.PointOp.TheVariants as op
use Rattle.sync_points.specs.declared.ops.PointAnswer.{PointAnswer}
use Rattle.sync_points.specs.declared.ops.PointAnswer.TheVariants as gives
use Rattle.sync_points.specs.declared.point.Input.{Input}
use Rattle.sync_points.specs.Points.{IsEdge, finished, point_at, put_point, told, with_input, written}

-- a call that isn't made
abbrev pub IsBarred : List SyncPoint → PointAnswer → List SyncPoint → Type 0
IsBarred points a new = (a ≡ gives.Barred) × (new ≡ points)

-- the node's point is read, if there is one
abbrev pub Reads : ℕ → (SyncPoint → PointAnswer) → List SyncPoint → PointAnswer → List SyncPoint → Type 0
Reads n of points a new =
    ((p : SyncPoint) × (point_at points n ≡ Some p) × (a ≡ of p) × (new ≡ points))
    ⊎ ((point_at points n ≡ None) × IsBarred points a new)

-- the node's point is written, if there is one
abbrev pub Writes : ℕ → (SyncPoint → SyncPoint) → List SyncPoint → PointAnswer → List SyncPoint → Type 0
Writes n of points a new =
    ((p : SyncPoint) × (point_at points n ≡ Some p) × (a ≡ gives.Done) × (new ≡ put_point (of p) points))
    ⊎ ((point_at points n ≡ None) × IsBarred points a new)

-- an input is gathered, if there is such an edge
abbrev pub Gathers : ℕ → ℕ → Input → List SyncPoint → PointAnswer → List SyncPoint → Type 0
Gathers n from x points a new =
    ((e : IsEdge points from n) × (a ≡ gives.Gathered (told from x e.point))
    × (new ≡ put_point (with_input from x e.point) points))
    ⊎ ((IsEdge points from n → ⊥) × IsBarred points a new)

-- what a call does, and what it answers
abbrev pub Does : PointOp → List SyncPoint → PointAnswer → List SyncPoint → Type 0
Does (op.Gather n from x) points a new = Gathers n from x points a new
Does (op.Inputs n) points a new = Reads n (λ p. gives.Inputs p.point.inputs) points a new
Does (op.Finish n) points a new = Writes n finished points a new
Does (op.IsDone n) points a new = Reads n (λ p. gives.IsDone p.point.done) points a new
Does (op.Set n inputs done) points a new = Writes n (written inputs done) points a new

-- each call does what it does in its turn
abbrev pub Runs : List PointOp → List SyncPoint → List PointAnswer → List SyncPoint → Type 0
Runs [] points [] new = new ≡ points
Runs [] points (a ∷ answers) new = ⊥
Runs (o ∷ os) points [] new = ⊥
Runs (o ∷ os) points (a ∷ answers) new = (mid : List SyncPoint) × Does o points a mid × Runs os mid answers new
