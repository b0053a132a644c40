-- How a list of points is read and written by node, and what a point is given.
use Rattle.std.specs.Prelude.{◌≡◌, ◌∷◌, ◌++◌, ℕ, Bool, true, List, [], Option, Some, cond, map, not, nat_eq}
use Rattle.std.specs.List.{list_any, list_all, count_by}
use Rattle.heat_plan.specs.Tables.{at, put}
use Rattle.sync_points.specs.declared.point.Input.{Input}
use Rattle.sync_points.specs.declared.point.Point.{Point}
use Rattle.sync_points.specs.declared.sync_point.SyncPoint.{SyncPoint}
use Rattle.sync_points.specs.declared.sync_point.Gathered.{Gathered}

-- a point's key
abbrev pub point_key : SyncPoint → ℕ
point_key p = p.point.node

-- the points alone
abbrev pub own_points : List SyncPoint → List Point
own_points = map (λ (p : SyncPoint). p.point)

-- the point of this node
abbrev pub point_at : List SyncPoint → ℕ → Option SyncPoint
point_at = at nat_eq point_key

-- a point written over the one of its node
abbrev pub put_point : SyncPoint → List SyncPoint → List SyncPoint
put_point = put nat_eq point_key

-- a node gave one of the inputs
abbrev pub has_from : ℕ → List Input → Bool
has_from from inputs = list_any (λ (x : Input). nat_eq x.from from) inputs

-- an edge leads from this node to the point's
abbrev pub is_before : ℕ → SyncPoint → Bool
is_before from p = list_any (λ n. nat_eq n from) p.preds

-- an edge leads from this node to one that has a point
pub record IsEdge (points : List SyncPoint) (from node : ℕ) : Type 0 where
  pub point : SyncPoint
  pub its : point_at points node ≡ Some point
  pub before : is_before from point ≡ true

-- the input, as that of the node that gives it
abbrev pub given : ℕ → Input → Input
given from x = record x { from = from }

-- the point with what a node gives, once
abbrev pub with_input : ℕ → Input → SyncPoint → SyncPoint
with_input from x p = record p {
  point = record p.point {
    inputs = cond (has_from from p.point.inputs) p.point.inputs (p.point.inputs ++ given from x ∷ []);
  };
}

-- each edge to the point's node has its input
abbrev pub is_full : SyncPoint → Bool
is_full p = list_all (λ from. has_from from p.point.inputs) p.preds

-- what a gathering tells
abbrev pub told : ℕ → Input → SyncPoint → Gathered
told from x p = record { new = not (has_from from p.point.inputs); full = is_full (with_input from x p) }

-- the point of a node that is done
abbrev pub finished : SyncPoint → SyncPoint
finished p = record p { point = record p.point { done = true } }

-- the point with other inputs, done or not
abbrev pub written : List Input → Bool → SyncPoint → SyncPoint
written inputs done p = record p { point = record p.point { inputs = inputs; done = done } }

-- another point, with the same nodes before it
abbrev pub replaced : Point → SyncPoint → SyncPoint
replaced point p = record p { point = point }

-- how many edges to the point's node have no input
abbrev pub missing_of : SyncPoint → ℕ
missing_of p = count_by (λ from. not (has_from from p.point.inputs)) p.preds
