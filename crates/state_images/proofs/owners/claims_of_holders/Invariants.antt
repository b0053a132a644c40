use Rattle.std.proofs.Common.{◌≡◌, map, take}
use Rattle.state_images.specs.Claims.{holder_claim}
use Rattle.state_images.proofs.owners.claims_of_holders.Given as goal

abbrev pub invariant-loop-job : goal.invariant-loop-job
invariant-loop-job l = l.claims.items ≡ map holder_claim (take l.job-index l.jobs)
