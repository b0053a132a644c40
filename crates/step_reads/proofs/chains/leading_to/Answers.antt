use Rattle.std.proofs.Common.{arith}
use Rattle.std.proofs.lemmas.Bool.{OnTrue_at, OnFalse_at}
use Rattle.step_reads.proofs.ChainLemmas.{leading_all, step_more, step_skip}
use Rattle.step_reads.proofs.chains.leading_to.Goals as goal

pub loop-left-preserved-in-Continue-branch-2 : goal.loop-left-preserved-in-Continue-branch-2
loop-left-preserved-in-Continue-branch-2 c = rw c.in_ok-push.ensures.ok
    (step_more _ c.in_ok-standing.standing.items (rw c.rows.ensures at c.in_ok-standing.ensures) c.args.row
    c.loop-left.left c.loop-left.leading
    c.index-as_slice-left.result c.loop-left-test.true (rw c.as_slice.ensures.value at c.index-as_slice-left.is)
    c.loop-left.invariant
    (rw c.as_slice-in-loop-left.ensures at (OnTrue_at c.if-leads_next.true c.leads_next.ensures.yes)))

pub loop-left-preserved : goal.loop-left-preserved
loop-left-preserved c =
    step_skip _ c.in_ok-standing.standing.items (rw c.rows.ensures at c.in_ok-standing.ensures) c.args.row
    c.loop-left.left c.loop-left.leading
    c.index-as_slice-left.result c.loop-left-test.true (rw c.as_slice.ensures.value at c.index-as_slice-left.is)
    c.loop-left.invariant
    (rw c.as_slice-in-loop-left.ensures at (OnFalse_at c.if-leads_next.false c.leads_next.ensures.no_))

pub returns : goal.returns
returns c = leading_all _ _ (rw c.rows.ensures at c.in_ok-standing.ensures) c.args.row c.loop-left.leading
    c.loop-left.left (omega (arith, c.loop-left-test.false)) c.loop-left.invariant
