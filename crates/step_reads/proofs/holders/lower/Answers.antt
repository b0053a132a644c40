use Rattle.std.proofs.Common.{refl, arith}
use Rattle.std.proofs.lemmas.Bool.Decides.{nat_tests}
use Rattle.step_reads.specs.Best.{taken, other}
use Rattle.step_reads.proofs.holders.lower.Goals as goal

pub returns-in-Some : goal.returns-in-Some
returns-in-Some c =
    taken c.in-Some.job.now (rw c.in-Some.is refl) (grind (arith, nat_tests, c.eq.ensures, c.if-eq.true))
    (rw c.lower_job.ensures refl)

pub returns-in_default : goal.returns-in_default
returns-in_default c =
    other c.in-Some.job.now (rw c.in-Some.is refl) (λ e. grind (arith, nat_tests, c.eq.ensures, c.if-eq.false, e)) refl
