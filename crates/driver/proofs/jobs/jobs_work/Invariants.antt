use Rattle.std.proofs.Common.{map, take, ◌*◌, ◌≤◌}
use Rattle.mail_table.specs.Mails.{job_key}
use Rattle.driver.proofs.Tables.{JobsSeen}
use Rattle.driver.proofs.jobs.jobs_work.Given as goal

abbrev pub invariant-loop-job : goal.invariant-loop-job
invariant-loop-job l = JobsSeen l.s.state (map job_key (take l.job-index l.job-items)) l.sum
    × (l.sum ≤ 206 * l.job-index)
