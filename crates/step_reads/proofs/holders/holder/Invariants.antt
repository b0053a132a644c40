use Rattle.std.proofs.Common.{take}
use Rattle.std.specs.Prelude.{option_map}
use Rattle.step_reads.proofs.HeldLemmas.{IsFirstHolder}
use Rattle.step_reads.proofs.holders.holder.Given as goal

abbrev pub invariant-loop-job : goal.invariant-loop-job
invariant-loop-job l =
    IsFirstHolder l.s.state.jobs l.row (take l.job-index l.job-items) (option_map (λ j. j.now) l.best)
