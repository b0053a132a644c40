use Rattle.std.proofs.Common.{inl, inr}
use Rattle.std.proofs.lemmas.Bool.{OnTrue_at, OnFalse_at}
use Rattle.step_reads.proofs.ResendLemmas.{least_update, no_update_at_all, no_update_here}
use Rattle.step_reads.proofs.resends.waiting_update.Goals as goal
use Rattle.step_reads.proofs.resends.waiting_update.Goals.{then-is_update_of+in_ok-place+in_default, else-is_update_of}

pub returns-in-Some : goal.returns-in-Some
returns-in-Some c =
    least_update c.args.s.now.state c.args.stack.now c.args.graph.now c.args.row c.loop-place.place c.node-item.result
    (rw c.as_slice-node-items.ensures at c.loop-place-test.true) (rw c.as_slice-node-items.ensures at c.node-item.is)
    c.in-Some.place
    (OnTrue_at c.if-is_update_of.true c.is_update_of.ensures.yes) (rw c.in-Some.is at c.in_ok-place.ensures)
    c.loop-place.invariant

pub loop-place-preserved : goal.loop-place-preserved
loop-place-preserved c =
    no_update_here c.args.s.now.state c.args.stack.now c.args.graph.now c.args.row c.loop-place.place c.node-item.result
    (rw c.as_slice-node-items.ensures at c.loop-place-test.true) (rw c.as_slice-node-items.ensures at c.node-item.is)
    (elim c.if-is_update_of.branch [
      | then-is_update_of+in_ok-place+in_default w ↦ inr (rw w.in_default.is at w.in_ok-place.ensures)
      | else-is_update_of w ↦ inl (OnFalse_at w.if-is_update_of.false c.is_update_of.ensures.no_)
    ]) c.loop-place.invariant

pub returns : goal.returns
returns c = no_update_at_all c.args.s.now.state c.args.stack.now c.args.graph.now c.args.row c.loop-place.place
    (rw c.as_slice-node-items.ensures at c.loop-place-test.false) c.loop-place.invariant
