use Rattle.std.proofs.Common.{◌<◌, ℕ}
use Rattle.std.specs.Prelude.{slice_index_or}
use Rattle.core_state.specs.declared.Job.{Job}
use Rattle.state_images.specs.Ties.{IsTiedJob}
use Rattle.state_images.proofs.records.jobs_are_tied.Given as goal

abbrev pub invariant-loop-job : goal.invariant-loop-job
invariant-loop-job l = (k : ℕ) (d : Job) → k < l.job-index → IsTiedJob l.s.state (slice_index_or l.jobs k d)
