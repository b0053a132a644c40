use Rattle.std.proofs.Common.{◌≡◌, ◌++◌, map, take}
use Rattle.core_state.specs.declared.change.Change.TheVariants.{PutPoint}
use Rattle.state_images.proofs.writing.add_points_of.Given as goal

abbrev pub invariant-loop-place : goal.invariant-loop-place
invariant-loop-place l = l.changes ≡ l.fn.changes ++ map PutPoint (take l.place l.graph.points)
