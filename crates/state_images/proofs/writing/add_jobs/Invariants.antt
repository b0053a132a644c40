use Rattle.std.proofs.Common.{◌≡◌, ◌++◌, map, take}
use Rattle.core_state.specs.declared.change.Change.TheVariants.{PutJob}
use Rattle.state_images.proofs.writing.add_jobs.Given as goal

abbrev pub invariant-loop-job : goal.invariant-loop-job
invariant-loop-job l = l.changes ≡ l.fn.changes ++ map PutJob (take l.job-index l.jobs)
