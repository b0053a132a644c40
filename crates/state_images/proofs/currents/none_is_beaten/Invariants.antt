use Rattle.std.proofs.Common.{◌<◌, ◌+◌, ℕ}
use Rattle.std.specs.Prelude.{slice_index_or}
use Rattle.heat_plan.specs.declared.token.Token.{Token}
use Rattle.state_images.specs.Tokens.{IsBeaten}
use Rattle.state_images.proofs.currents.none_is_beaten.Given as goal

abbrev pub invariant-loop-i : goal.invariant-loop-i
invariant-loop-i l = (k : ℕ) (d : Token) → k + 1 < l.i
    → ¬ IsBeaten l.s.state.rows (slice_index_or l.tokens k d) (slice_index_or l.tokens (k + 1) d)
