use Rattle.std.proofs.Common.{◌<◌, ◌+◌, ℕ}
use Rattle.std.specs.Prelude.{slice_index_or}
use Rattle.state_images.specs.Claims.{Agree}
use Rattle.state_images.specs.declared.claim.Claim.{Claim}
use Rattle.state_images.proofs.single.neighbours_agree.Given as goal

abbrev pub invariant-loop-i : goal.invariant-loop-i
invariant-loop-i l = (k : ℕ) (d : Claim) → k + 1 < l.i
    → Agree (slice_index_or l.claims k d) (slice_index_or l.claims (k + 1) d)
