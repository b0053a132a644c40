-- Points that stand at the places of their nodes.
use Rattle.std.specs.Prelude.{◌≡◌, ◌+◌, ◌∷◌, ℕ, List, [], false}
use Rattle.sync_points.specs.declared.sync_point.SyncPoint.{SyncPoint}

-- the point of a stack's node that was given nothing
abbrev pub fresh_point : List ℕ → ℕ → List ℕ → SyncPoint
fresh_point stack place preds =
    record { point = record { stack = stack; node = place; inputs = []; done = false }; preds = preds }

-- a point for each node's predecessors, from a place on
abbrev pub fresh_points : List ℕ → ℕ → List (List ℕ) → List SyncPoint
fresh_points stack place [] = []
fresh_points stack place (preds ∷ rest) = fresh_point stack place preds ∷ fresh_points stack (place + 1) rest

-- the nodes are the places, from one on
abbrev pub AreNumbered : ℕ → List SyncPoint → Type 0
AreNumbered place [] = Unit {0}
AreNumbered place (p ∷ rest) = (p.point.node ≡ place) × AreNumbered (place + 1) rest
