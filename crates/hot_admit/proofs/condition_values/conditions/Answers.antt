-- Section by section: what is found first is the fault, and where nothing is found, what each section gives.
use Rattle.std.proofs.lemmas.Result.{err_from_is_err_and}
use Rattle.hot_admit.proofs.Unvalued.{cyclic_in, named_in, grounds, flags, resources_fault, outputs_fault, all_valued}
use Rattle.hot_admit.proofs.condition_values.conditions.Goals as goal

pub returns-in_err-order-clause-fault : goal.returns-in_err-order-clause-fault
returns-in_err-order-clause-fault c =
    let p = err_from_is_err_and c.from_residual.result c.from_residual.ensures.1 in
    rw (p.1, p.2) (cyclic_in c.args.bound.now.params c.args.template.now c.parts-parts.result.now
    c.as_slice-members.result.now c.parts-parts.ensures.exact c.as_slice-members.ensures.members
    c.in_err-order.field-0.0 c.in_err-order.ensures.fault)

pub returns-in_err-conds-clause-fault : goal.returns-in_err-conds-clause-fault
returns-in_err-conds-clause-fault c =
    let p = err_from_is_err_and c.from_residual-in_err-conds.result c.from_residual-in_err-conds.ensures.1 in
    rw (p.1, p.2) (named_in c.args.bound.now.params c.args.template.now c.parts-parts.result.now
    c.as_slice-members.result.now c.in_ok-order.order
    (grounds c.parts-parts.ensures.exact c.as_slice-members.ensures.rising c.as_slice-members.ensures.members
    c.in_ok-order.ensures.ok)
    c.in_err-conds.field-0.0 (rw c.as_props-params.ensures.value at c.in_err-conds.ensures.fault))

pub returns-in_err-resources-clause-fault : goal.returns-in_err-resources-clause-fault
returns-in_err-resources-clause-fault c =
    let p = err_from_is_err_and c.from_residual-in_err-resources.result c.from_residual-in_err-resources.ensures.1 in
    rw (p.1, p.2) (resources_fault c.args.bound.now.params c.args.template.now c.parts-parts.result.now
    c.in_ok-conds.conds
    (flags c.args.bound.now.params c.args.template.now c.parts-parts.result.now c.as_slice-members.result.now
    c.in_ok-order.order
    (grounds c.parts-parts.ensures.exact c.as_slice-members.ensures.rising c.as_slice-members.ensures.members
    c.in_ok-order.ensures.ok)
    c.in_ok-conds.conds (rw c.as_props-params.ensures.value at c.in_ok-conds.ensures.ok)
    (rw c.as_props-params.ensures.value at c.in_ok-conds.ensures.each))
    c.in_err-resources.field-0.0
    (rw (c.as_slice-2.ensures, c.as_props-params.ensures.value) at c.in_err-resources.ensures.fault))

pub returns-in_err-outputs-clause-fault : goal.returns-in_err-outputs-clause-fault
returns-in_err-outputs-clause-fault c =
    let p = err_from_is_err_and c.from_residual-in_err-outputs.result c.from_residual-in_err-outputs.ensures.1 in
    rw (p.1, p.2) (outputs_fault c.args.bound.now.params c.args.template.now c.parts-parts.result.now
    c.in_ok-conds.conds
    (flags c.args.bound.now.params c.args.template.now c.parts-parts.result.now c.as_slice-members.result.now
    c.in_ok-order.order
    (grounds c.parts-parts.ensures.exact c.as_slice-members.ensures.rising c.as_slice-members.ensures.members
    c.in_ok-order.ensures.ok)
    c.in_ok-conds.conds (rw c.as_props-params.ensures.value at c.in_ok-conds.ensures.ok)
    (rw c.as_props-params.ensures.value at c.in_ok-conds.ensures.each))
    (rw (c.as_slice-2.ensures, c.as_props-params.ensures.value) at c.in_ok-resources.ensures.each)
    c.in_err-outputs.field-0.0
    (rw (c.as_slice-3.ensures, c.as_props-params.ensures.value) at c.in_err-outputs.ensures.fault))

pub returns-clause-ok : goal.returns-clause-ok
returns-clause-ok c =
    all_valued c.args.bound.now.params c.args.template.now c.parts-parts.result.now c.in_ok-conds.conds
    (flags c.args.bound.now.params c.args.template.now c.parts-parts.result.now c.as_slice-members.result.now
    c.in_ok-order.order
    (grounds c.parts-parts.ensures.exact c.as_slice-members.ensures.rising c.as_slice-members.ensures.members
    c.in_ok-order.ensures.ok)
    c.in_ok-conds.conds (rw c.as_props-params.ensures.value at c.in_ok-conds.ensures.ok)
    (rw c.as_props-params.ensures.value at c.in_ok-conds.ensures.each))
    c.in_ok-resources.resources c.in_ok-outputs.outputs
    (rw (c.as_slice-2.ensures, c.as_props-params.ensures.value) at c.in_ok-resources.ensures.ok)
    (rw (c.as_slice-2.ensures, c.as_props-params.ensures.value) at c.in_ok-resources.ensures.each)
    (rw (c.as_slice-3.ensures, c.as_props-params.ensures.value) at c.in_ok-outputs.ensures.ok)
    (rw (c.as_slice-3.ensures, c.as_props-params.ensures.value) at c.in_ok-outputs.ensures.each)
