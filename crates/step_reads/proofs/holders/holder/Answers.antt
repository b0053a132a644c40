use Rattle.std.proofs.Common.{◌≡◌, arith}
use Rattle.std.specs.Prelude.{nat_le, option_map}
use Rattle.std.proofs.lemmas.Bool.Decides.{nat_tests}
use Rattle.std.proofs.lemmas.List.{take_more, take_all}
use Rattle.mail_table.specs.Mails.{job_key}
use Rattle.mail_table.specs.declared.mail.Job.{Job}
use Rattle.step_reads.proofs.Held.{first_next, first_skip}
use Rattle.step_reads.proofs.HeldLemmas.{holder_of, no_holder, ups}
use Rattle.step_reads.proofs.holders.holder.Goals as goal
use Rattle.step_reads.proofs.holders.holder.Goals.{then-eq, else-eq}

pub loop-job-preserved : goal.loop-job-preserved
loop-job-preserved c = elim c.if-eq.branch [
  | then-eq w ↦ rw (take_more _ _ c.job-item.result c.loop-job-test.true, ← c.job-item.is, w.best-is)
      (first_next job_key nat_le ups c.args.s.now.state.jobs (λ (j : Job). j.row ≡ c.args.row) _
      (option_map (λ j. j.now) c.loop-job.best) _ c.job-item.result
      (rw w.job.ensures at w.lower-best.ensures) c.loop-job.invariant)
  | else-eq w ↦ rw (take_more _ _ c.job-item.result c.loop-job-test.true, ← c.job-item.is, w.best-is)
      (first_skip job_key nat_le ups c.args.s.now.state.jobs (λ (j : Job). j.row ≡ c.args.row) _
      (option_map (λ j. j.now) c.loop-job.best) c.job-item.result
      (λ stands of. grind (arith, nat_tests, c.eq.ensures, w.if-eq.false, of)) c.loop-job.invariant)
]

pub returns-clause-some : goal.returns-clause-some
returns-clause-some c = holder_of c.args.s.now.state.jobs c.args.row c.loop-job.best
    (rw (take_all c.loop-job.job-index c.jobs-job-items.result.now c.loop-job-test.false, c.jobs-job-items.ensures) at
    c.loop-job.invariant)

pub returns-clause-none : goal.returns-clause-none
returns-clause-none c = no_holder c.args.s.now.state.jobs c.args.row c.loop-job.best
    (rw (take_all c.loop-job.job-index c.jobs-job-items.result.now c.loop-job-test.false, c.jobs-job-items.ensures) at
    c.loop-job.invariant)
