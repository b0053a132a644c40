use Rattle.std.proofs.Common.{ℕ}
use Rattle.std.specs.Prelude.{Contains, option_map}
use Rattle.std.proofs.lemmas.Bool.{both_ways}
use Rattle.std.proofs.lemmas.List.{take_more, take_all}
use Rattle.mail_table.specs.Mails.{job_key}
use Rattle.step_reads.proofs.Best.{best_more, best_skip}
use Rattle.step_reads.proofs.NextLemmas.{left_of, none_left, none_seen}
use Rattle.step_reads.proofs.next.left.Goals as goal
use Rattle.step_reads.proofs.next.left.Goals.{then-not-is_live, else-not-is_live}

pub loop-job-init : goal.loop-job-init
loop-job-init c = none_seen job_key (λ (f : ℕ). ¬ Contains c.args.s.now.state.live f)

pub loop-job-preserved : goal.loop-job-preserved
loop-job-preserved c = elim c.if-not-is_live.branch [
  | then-not-is_live w ↦ rw (
    take_more _ _ c.job-item.result c.loop-job-test.true,
    ← c.job-item.is,
    w.best-is,
    w.lower_job.ensures,
  )
      (best_more job_key (λ (f : ℕ). ¬ Contains c.args.s.now.state.live f) _ (option_map (λ b. b.now) c.loop-job.best)
      c.job-item.result
      (λ live. both_ways c.is_live.result w.if-not-is_live.true (c.is_live.ensures.1 live)) c.loop-job.invariant)
  | else-not-is_live w ↦ rw (take_more _ _ c.job-item.result c.loop-job-test.true, ← c.job-item.is, w.best-is)
      (best_skip job_key (λ (f : ℕ). ¬ Contains c.args.s.now.state.live f) _ (option_map (λ b. b.now) c.loop-job.best)
      c.job-item.result
      (λ gone. gone (c.is_live.ensures.0 w.if-not-is_live.false)) c.loop-job.invariant)
]

pub returns-clause-some : goal.returns-clause-some
returns-clause-some c = left_of c.args.s.now.state c.loop-job.best
    (rw (← c.jobs-job-items.ensures)
    (rw (take_all c.loop-job.job-index c.jobs-job-items.result.now c.loop-job-test.false) at c.loop-job.invariant))

pub returns-clause-none : goal.returns-clause-none
returns-clause-none c = none_left c.args.s.now.state c.loop-job.best
    (rw (← c.jobs-job-items.ensures)
    (rw (take_all c.loop-job.job-index c.jobs-job-items.result.now c.loop-job-test.false) at c.loop-job.invariant))
