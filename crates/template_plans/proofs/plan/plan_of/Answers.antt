-- The first fault is the body's.
use Rattle.std.proofs.lemmas.Result.{err_from_is_err_and}
use Rattle.template_plans.proofs.Planning.{flawed, unvalued, refused}
use Rattle.template_plans.proofs.plan.plan_of.Goals as goal

pub returns-in_err-template-clause-fault : goal.returns-in_err-template-clause-fault
returns-in_err-template-clause-fault g c =
    let p = err_from_is_err_and c.from_residual.result c.from_residual.ensures.1 in
    rw (p.1, p.2) (λ other. flawed _ _ _ c.template.ensures.value c.in_err-template.field-0.0 other
    c.in_err-template.ensures.fault)

pub returns-in_err-bound-clause-fault : goal.returns-in_err-bound-clause-fault
returns-in_err-bound-clause-fault g c =
    let p = err_from_is_err_and c.from_residual-in_err-bound.result c.from_residual-in_err-bound.ensures.1 in
    rw (p.1, p.2) (λ other. unvalued _ _ _ c.template.ensures.value _ c.params.ensures.value c.in_ok-template.template
    c.in_ok-template.ensures.ok c.in_err-bound.field-0.0 other c.in_err-bound.ensures.fault)

pub returns-in_err-admit-clause-fault : goal.returns-in_err-admit-clause-fault
returns-in_err-admit-clause-fault g c =
    let p = err_from_is_err_and c.from_residual-in_err-admit.result c.from_residual-in_err-admit.ensures.1 in
    rw (p.1, p.2) (λ other. refused _ _ _ c.template.ensures.value _ c.params.ensures.value c.in_ok-template.template
    c.in_ok-template.ensures.ok c.in_ok-bound.bound.params c.in_ok-bound.ensures.ok _ c.files.ensures.value
    c.in_err-admit.field-0.0 other c.in_err-admit.ensures.fault)
