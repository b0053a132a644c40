use Rattle.std.proofs.Common.{◌≡◌, drop}
use Rattle.provider.specs.Table.{once}
use Rattle.headline_reader.proofs.after.once.Given as goal

abbrev pub invariant-loop-at : goal.invariant-loop-at
invariant-loop-at l = l.kept ≡ once (drop l.at l.all)
