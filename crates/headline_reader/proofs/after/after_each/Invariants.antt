use Rattle.std.proofs.Common.{◌≡◌, ◌++◌, drop}
use Rattle.std.specs.Prelude.{flat_map}
use Rattle.provider.specs.Table.{after}
use Rattle.headline_reader.proofs.after.after_each.Given as goal

abbrev pub invariant-loop-state : goal.invariant-loop-state
invariant-loop-state l = l.all ++ flat_map (after l.request l.answer) (drop l.state-index l.states) ≡ flat_map (after l.request l.answer) l.states
