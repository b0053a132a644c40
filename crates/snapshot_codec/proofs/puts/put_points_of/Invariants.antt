use Rattle.std.proofs.Common.{map, take}
use Rattle.core_state.specs.declared.change.Change.TheVariants.{PutPoint}
use Rattle.snapshot_codec.specs.Puts.{HasPut}
use Rattle.snapshot_codec.proofs.puts.put_points_of.Given as goal

abbrev pub invariant-loop-place : goal.invariant-loop-place
invariant-loop-place l = HasPut (map PutPoint (take l.place l.graph.points)) l.fn.sheet l.sheet
