use Rattle.std.proofs.Common.{◌≡◌, sym, subst, inl, inr, arith}
use Rattle.std.proofs.lemmas.Bool.{OnTrue_at, OnFalse_at, cases_lt}
use Rattle.step_reads.specs.Waiting.{IsDoneThen}
use Rattle.step_reads.proofs.FinishLemmas.{all_done_then, not_all_done}
use Rattle.step_reads.proofs.finishing.all_done.Goals as goal

pub returns-then-not-is_done_then-clause-no_ : goal.returns-then-not-is_done_then-clause-no_
returns-then-not-is_done_then-clause-no_ c =
    not_all_done c.args.graph.now c.args.node c.args.input.now c.args.succs.now c.loop-place.place
    (omega (arith, c.loop-place-test.true, c.len-place-end.ensures))
    (OnFalse_at c.if-not-is_done_then.true c.is_done_then.ensures.no_)

pub loop-place-preserved : goal.loop-place-preserved
loop-place-preserved c = λ k lt. elim (cases_lt k c.loop-place.place) [
  | inl below ↦ c.loop-place.invariant k below
  | inr from ↦ (let is : k ≡ c.loop-place.place = omega (arith, lt, from) in
      subst (IsDoneThen c.args.graph.now c.args.node) (sym is)
      (OnTrue_at c.if-not-is_done_then.false c.is_done_then.ensures.yes))
]

pub returns-clause-yes : goal.returns-clause-yes
returns-clause-yes c = all_done_then c.args.graph.now c.args.node c.args.input.now c.args.succs.now
    (λ k lt. c.loop-place.invariant k (omega (arith, lt, c.loop-place-test.false, c.len-place-end.ensures)))
