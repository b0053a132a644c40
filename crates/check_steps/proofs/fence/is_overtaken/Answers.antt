use Rattle.std.proofs.Common.{subst, sym}
use Rattle.std.proofs.lemmas.Bool.{OnFalse_at, OnFalse_from, OnTrue_at, OnTrue_from}
use Rattle.check_steps.specs.Looks.{IsWork}
use Rattle.check_steps.specs.declared.looks.Work.{Work}
use Rattle.check_steps.proofs.Fenced.{take_another, take_over_another}
use Rattle.check_steps.proofs.Seeing.{next_takes, next_takes_over, next_works, plain_takes, plain_takes_over}
use Rattle.check_steps.proofs.fence.is_overtaken.Goals as goal

pub returns-in-Lost-clause-no_ : goal.returns-in-Lost-clause-no_
returns-in-Lost-clause-no_ c = λ next. absurd (c.in-Lost.ensures next.live)

pub returns-in-Idle-clause-no_ : goal.returns-in-Idle-clause-no_
returns-in-Idle-clause-no_ c = λ next. absurd (next.some c.in-Idle.ensures)

pub returns-in-Take-clause-yes : goal.returns-in-Take-clause-yes
returns-in-Take-clause-yes c = OnTrue_from c.is_begin.result _ (λ t. record {
  next = next_takes _ c.args.e _ c.in-Take.ensures;
  other = take_another _ c.args.e _ c.in-Take.ensures c.args.work.now (OnTrue_at t c.is_begin.ensures.yes);
})

pub returns-in-Take-clause-no_ : goal.returns-in-Take-clause-no_
returns-in-Take-clause-no_ c = OnFalse_from c.is_begin.result _ (λ f next.
    subst (λ (w : Work). IsWork c.args.s.now.state c.args.e w) (sym (OnFalse_at f c.is_begin.ensures.no_))
    (plain_takes _ c.args.e _ c.in-Take.ensures))

pub returns-in-TakeOver-clause-yes : goal.returns-in-TakeOver-clause-yes
returns-in-TakeOver-clause-yes c = OnTrue_from c.is_begin-in-TakeOver.result _ (λ t. record {
  next = next_takes_over _ c.args.e _ _ c.in-TakeOver.ensures;
  other = take_over_another _ c.args.e _ _ c.in-TakeOver.ensures c.args.work.now
      (OnTrue_at t c.is_begin-in-TakeOver.ensures.yes);
})

pub returns-in-TakeOver-clause-no_ : goal.returns-in-TakeOver-clause-no_
returns-in-TakeOver-clause-no_ c = OnFalse_from c.is_begin-in-TakeOver.result _ (λ f next.
    subst (λ (w : Work). IsWork c.args.s.now.state c.args.e w)
    (sym (OnFalse_at f c.is_begin-in-TakeOver.ensures.no_))
    (plain_takes_over _ c.args.e _ _ c.in-TakeOver.ensures))

pub returns-in-Work-clause-yes : goal.returns-in-Work-clause-yes
returns-in-Work-clause-yes c = OnTrue_from c.is_another.result _ (λ t. record {
  next = next_works _ c.args.e _ _ c.in-Work.ensures;
  other = OnTrue_at t c.is_another.ensures.yes;
})

pub returns-in-Work-clause-no_ : goal.returns-in-Work-clause-no_
returns-in-Work-clause-no_ c = OnFalse_from c.is_another.result _ (λ f next. OnFalse_at f c.is_another.ensures.no_)
