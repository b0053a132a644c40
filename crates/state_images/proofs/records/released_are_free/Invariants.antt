use Rattle.std.proofs.Common.{◌<◌, ℕ}
use Rattle.std.specs.Prelude.{slice_index_or}
use Rattle.heat_plan.specs.declared.token.Token.{Token}
use Rattle.state_images.specs.Ties.{IsFree}
use Rattle.state_images.proofs.records.released_are_free.Given as goal

abbrev pub invariant-loop-token : goal.invariant-loop-token
invariant-loop-token l = (k : ℕ) (d : Token) → k < l.token-index → IsFree l.s.state (slice_index_or l.released k d)
