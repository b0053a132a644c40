use Rattle.std.proofs.lemmas.Bool.{both_ways}
use Rattle.std.proofs.lemmas.Result.{err_from_is_err_and}
use Rattle.step_ends.proofs.Behind.{due_after, due_before, follows_after}
use Rattle.step_ends.proofs.Refusing.{behind_refusal}
use Rattle.step_ends.proofs.rolling.rolled_behind_twice.Goals as goal

pub returns-then-not-is_due-clause-made : goal.returns-then-not-is_due-clause-made
returns-then-not-is_due-clause-made c q w due =
    both_ways _ c.if-not-is_due.true (c.is_due.ensures.1 (due_before _ c.args.e q _ w due))

pub returns-clause-made : goal.returns-clause-made
returns-clause-made c = (
  (
    λ q w. record {
      due = due_after _ c.args.e q _ w (c.is_due.ensures.0 c.if-not-is_due.false);
      follows = follows_after _ c.args.e q _ w c.requires.found c.requires.running _ _ c.in_ok-both.ensures.first;
    },
    c.in_ok-both.ensures.unworn.0,
  ),
  (
    λ q w. record {
      due = due_after _ c.args.e q _ w (c.is_due.ensures.0 c.if-not-is_due.false);
      follows = follows_after _ c.args.e q _ w c.requires.found c.requires.running _ _ c.in_ok-both.ensures.second;
    },
    c.in_ok-both.ensures.unworn.1,
  ),
)

pub returns-in_err-both-clause-cause : goal.returns-in_err-both-clause-cause
returns-in_err-both-clause-cause c =
    let p = err_from_is_err_and c.from_residual.result c.from_residual.ensures.1 in
    rw (p.1, p.2) (behind_refusal _ _ _ _ c.requires.found c.requires.running
    (c.is_due.ensures.0 c.if-not-is_due.false) c.in_err-both.ensures.cause)
