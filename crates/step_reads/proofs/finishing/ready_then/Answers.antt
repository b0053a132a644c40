use Rattle.std.proofs.Common.{ℕ, get_or}
use Rattle.std.specs.Prelude.{Contains}
use Rattle.std.proofs.lemmas.Bool.{OnTrue_at, OnFalse_at}
use Rattle.std.proofs.lemmas.List.{get_or_default, take_all}
use Rattle.std.proofs.lemmas.List.Elements.{Contains-get_or}
use Rattle.core_state.specs.Reads.{IsReady}
use Rattle.step_relation.specs.Inputs.{passed}
use Rattle.step_reads.proofs.ThenLemmas.{pick_more, pick_skip, ready_from, ready_to}
use Rattle.step_reads.proofs.finishing.ready_then.Goals as goal
use Rattle.step_reads.proofs.finishing.ready_then.Goals.{then-branch+in_ok-push, else-branch}

pub loop-succ-preserved : goal.loop-succ-preserved
loop-succ-preserved c =
    let lt = c.loop-succ-test.true in
    let k : ℕ = get_or c.args.succs.now c.loop-succ.succ-index 0 in
    let behind : Contains c.args.succs.now k = Contains-get_or c.args.succs.now c.loop-succ.succ-index 0 lt in
    elim c.if-branch.branch [
      | then-branch+in_ok-push w ↦ rw (w.ready-is, w.in_ok-push.ensures.ok)
          (pick_more (IsReady (passed c.args.graph.now c.args.node c.args.input.now c.args.succs.now)) c.args.succs.now
          c.requires c.loop-succ.succ-index k lt
          (get_or_default c.args.succs.now c.loop-succ.succ-index 0 k lt) c.loop-succ.ready
          (ready_from c.args.graph.now c.args.node c.args.input.now c.args.succs.now k behind
          (OnTrue_at w.if-branch.true c.in_ok-is_ready_with.ensures.yes))
          c.loop-succ.invariant)
      | else-branch w ↦ rw w.ready-is
          (pick_skip (IsReady (passed c.args.graph.now c.args.node c.args.input.now c.args.succs.now)) c.args.succs.now
          c.requires c.loop-succ.succ-index k lt
          (get_or_default c.args.succs.now c.loop-succ.succ-index 0 k lt) c.loop-succ.ready
          (λ ready. OnFalse_at w.if-branch.false c.in_ok-is_ready_with.ensures.no_
          (ready_to c.args.graph.now c.args.node c.args.input.now c.args.succs.now k behind ready))
          c.loop-succ.invariant)
    ]

pub returns : goal.returns
returns c = rw (take_all c.loop-succ.succ-index c.args.succs.now c.loop-succ-test.false) at c.loop-succ.invariant
