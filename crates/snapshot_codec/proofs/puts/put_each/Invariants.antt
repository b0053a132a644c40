use Rattle.std.proofs.Common.{map, take}
use Rattle.snapshot_codec.specs.Puts.{HasPut}
use Rattle.snapshot_codec.proofs.puts.put_each.Given as goal

abbrev pub invariant-loop-thing : goal.invariant-loop-thing
invariant-loop-thing g l = HasPut (map g.T.Brought.bringing (take l.thing-index l.things)) l.fn.sheet l.sheet
