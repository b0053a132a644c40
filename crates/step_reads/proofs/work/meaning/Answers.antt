use Rattle.std.proofs.Common.{sym}
use Rattle.std.proofs.lemmas.Bool.{OnFalse_at}
use Rattle.step_reads.proofs.WorkLemmas.{work_no}
use Rattle.step_reads.proofs.work.meaning.Goals as goal

pub returns-then-not-serves-clause-none : goal.returns-then-not-serves-clause-none
returns-then-not-serves-clause-none c =
    λ e. work_no c.args.s.now.state c.args.letter.now _ _ _ c.in_ok-target.target _ c.in_ok-it.ensures.some
    c.in_ok-target.ensures.some (sym c.row-row.ensures) (OnFalse_at c.if-not-serves.true c.serves.ensures.no_)
