use Rattle.std.proofs.Common.{take, ℕ}
use Rattle.std.specs.Prelude.{Contains, option_map}
use Rattle.mail_table.specs.Mails.{job_key}
use Rattle.step_reads.proofs.Best.{IsBest}
use Rattle.step_reads.proofs.next.left.Given as goal

abbrev pub invariant-loop-job : goal.invariant-loop-job
invariant-loop-job l =
    IsBest job_key (λ (f : ℕ). ¬ Contains l.s.state.live f) (take l.job-index l.job-items)
    (option_map (λ b. b.now) l.best)
