-- A run under its limit, or the note that no engine is live.
use Rattle.std.proofs.Common.{◌≡◌, length, arith}
use Rattle.converge_call.proofs.Running.{run_limited, run_refused, none_live, some_live}
use Rattle.converge_call.proofs.runs.run.Goals as goal

pub run_at_most-requires : goal.run_at_most-requires
run_at_most-requires g c = record {
  live = some_live c.live.result.now c.args.book.now.state.live c.live.ensures.value
      (λ none. grind (arith, none, c.is_empty.ensures, c.if-is_empty.false));
}

pub returns-clause-done : goal.returns-clause-done
returns-clause-done g c =
    run_limited _ _ c.args.number c.args.asked c.limit-most.result _ _ _
    (some_live c.live.result.now c.args.book.now.state.live c.live.ensures.value
    (λ none. grind (arith, none, c.is_empty.ensures, c.if-is_empty.false)))
    c.limit-most.ensures c.run_at_most.ensures.done

pub returns-then-is_empty-clause-done : goal.returns-then-is_empty-clause-done
returns-then-is_empty-clause-done g c =
    let none : length c.live.result.now ≡ 0 = grind (arith, c.is_empty.ensures, c.if-is_empty.true) in
    run_refused _ _ c.args.number c.args.asked _ _ _
    (none_live c.live.result.now c.args.book.now.state.live c.live.ensures.value none) c.refuse.ensures.done
