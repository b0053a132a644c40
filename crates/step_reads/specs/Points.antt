-- The point of a node once another is done.
use Rattle.std.specs.Prelude.{List, None, Option, Some, [], ℕ, ◌==◌, ◌||◌}
use Rattle.sync_points.specs.declared.point.Input.{Input}
use Rattle.sync_points.specs.declared.point.Point.{Point}
use Rattle.core_state.specs.declared.graph.Graph.{Graph}
use Rattle.step_relation.specs.Inputs.{gathered, point_at}

-- the inputs of a point, if it stands
abbrev pub inputs_in : Option Point → List Input
inputs_in (Some p) = p.inputs
inputs_in None = []

-- the inputs with one that is given, if any
abbrev pub gathered_if : Option Input → List Input → List Input
gathered_if (Some x) inputs = gathered x inputs
gathered_if None inputs = inputs

-- the point of k with the input that is given there, once i is done
abbrev pub point_with : Graph → ℕ → ℕ → Option Input → Point
point_with g i k given = record {
  stack = g.stack;
  node = k;
  inputs = gathered_if given (point_at g k).inputs;
  done = (k == i) || (point_at g k).done;
}
