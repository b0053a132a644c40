use Rattle.std.proofs.Common.{◌≡◌, drop}
use Rattle.std.specs.Prelude.{fold}
use Rattle.step_relation.specs.Stored.{written}
use Rattle.headline_reader.proofs.rows.store_all.Given as goal

abbrev pub invariant-loop-write : goal.invariant-loop-write
invariant-loop-write l = fold written l.rows.items (drop l.write-index l.writes) ≡ fold written l.initial.rows.items l.writes
