use Rattle.std.proofs.Common.{◌≡◌, ◌++◌, map, take}
use Rattle.state_images.specs.Claims.{job_claim}
use Rattle.state_images.proofs.owners.claim_jobs.Given as goal

abbrev pub invariant-loop-job : goal.invariant-loop-job
invariant-loop-job l = l.claims.items ≡ l.fn.claims.items ++ map job_claim (take l.job-index l.jobs)
