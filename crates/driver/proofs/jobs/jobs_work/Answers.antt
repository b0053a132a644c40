-- A job after the other.
use Rattle.std.proofs.Common.{List, arith, refl, subst, ℕ, ◌*◌, ◌+◌}
use Rattle.std.specs.Prelude.{nat_eq}
use Rattle.std.proofs.lemmas.Bool.Decides.{Decides-eqb}
use Rattle.mail_table.specs.Mails.{job_key}
use Rattle.driver.proofs.Listed.{found_here, keys_all, keys_here, new_here}
use Rattle.driver.proofs.Tables.{JobsSeen, jobs_all, jobs_more}
use Rattle.driver.proofs.jobs.jobs_work.Goals as goal

pub job_work-sum-requires : goal.job_work-sum-requires
job_work-sum-requires c = found_here nat_eq Decides-eqb job_key c.jobs-job-items.result.now c.args.s.now.state.jobs
    c.loop-job.job-index c.job-item.result c.jobs-job-items.ensures c.loop-job-test.true c.job-item.is c.requires.jobs

pub loop-job-preserved : goal.loop-job-preserved
loop-job-preserved c = (
  subst (λ (keys : List ℕ). JobsSeen c.args.s.now.state keys (c.loop-job.sum + c.job_work-sum.result))
      (keys_here nat_eq Decides-eqb job_key c.jobs-job-items.result.now c.loop-job.job-index c.job-item.result
      c.loop-job-test.true c.job-item.is)
      (jobs_more c.args.s.now.state _ _ _ _ _ c.loop-job.invariant.0
      (new_here nat_eq Decides-eqb job_key c.jobs-job-items.result.now c.args.s.now.state.jobs c.loop-job.job-index
      c.job-item.result c.jobs-job-items.ensures c.loop-job-test.true c.job-item.is c.requires.jobs)
      c.job_work-sum.ensures.exact refl),
  (let a = c.loop-job.invariant.1 in let b = c.job_work-sum.ensures.bound in omega (arith, a, b)),
)

pub returns-clause-exact : goal.returns-clause-exact
returns-clause-exact c = jobs_all c.args.s.now.state c.loop-job.sum
    (subst (λ (keys : List ℕ). JobsSeen c.args.s.now.state keys c.loop-job.sum)
    (keys_all nat_eq Decides-eqb job_key c.jobs-job-items.result.now c.args.s.now.state.jobs c.loop-job.job-index
    c.jobs-job-items.ensures c.loop-job-test.false) c.loop-job.invariant.0)
