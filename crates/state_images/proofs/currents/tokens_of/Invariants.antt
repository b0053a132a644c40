use Rattle.std.proofs.Common.{◌≡◌, map, take}
use Rattle.step_relation.specs.Rows.{token_of}
use Rattle.state_images.proofs.currents.tokens_of.Given as goal

abbrev pub invariant-loop-row : goal.invariant-loop-row
invariant-loop-row l = l.tokens.items ≡ map token_of (take l.row-index l.rows)
