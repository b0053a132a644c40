use Rattle.std.proofs.Common.{◌≡◌, ◌++◌, ◌∷◌, drop}
use Rattle.std.specs.Prelude.{filter, not}
use Rattle.provider.specs.Table.{same_state}
use Rattle.headline_reader.proofs.after.before_others.Given as goal

abbrev pub invariant-loop-other : goal.invariant-loop-other
invariant-loop-other l =
    l.kept ++ filter (λ r. not (same_state l.state r)) (drop l.other-index l.rest) ≡ l.state ∷ filter (λ r. not (same_state l.state r)) l.rest
