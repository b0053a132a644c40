use Rattle.std.proofs.Common.{refl, subst, sym}
use Rattle.check_steps.specs.Looks.{IsBegin}
use Rattle.check_steps.specs.declared.looks.BeginWork.{BeginWork}
use Rattle.check_steps.proofs.Seeing.{begin_read, plain_works}
use Rattle.check_steps.proofs.looking.work_of.Goals as goal

pub returns-in_ok-begin_work-in-Some : goal.returns-in_ok-begin_work-in-Some
returns-in_ok-begin_work-in-Some c = subst (λ (w : BeginWork). IsBegin c.args.s.now.state c.args.e w)
    (sym c.in_ok-begin_work-in-Some.ensures) (begin_read _ c.args.e _ _ c.in-Some.ensures.some.parts)

pub returns-in-None : goal.returns-in-None
returns-in-None c = plain_works _ c.args.e _ _ c.requires.works (c.in-None.ensures.none refl)
