-- The points of a graph.
use Rattle.std.specs.Prelude.{ℕ, ◌+◌, false, List, [], ◌∷◌}
use Rattle.traversal_graph.specs.declared.shape.Node.{Node}
use Rattle.sync_points.specs.declared.point.Point.{Point}

-- a point without inputs for each node, from a place on
abbrev pub fresh_points : List ℕ → ℕ → List Node → List Point
fresh_points stack place [] = []
fresh_points stack place (node ∷ nodes) =
    record { stack = stack; node = place; inputs = []; done = false } ∷ fresh_points stack (place + 1) nodes
