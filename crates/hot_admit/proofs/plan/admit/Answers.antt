-- The template is judged step by step, and what is found at each step is the plan or the fault.
use Rattle.hot_catalog.specs.Catalogs.{standing}
use Rattle.hot_admit.proofs.Judging.{given_with, grounded, refused_conditions, refused_entries, own_none, order_is}
use Rattle.hot_admit.proofs.Judging.{counts, output_counts, outputs_shallow, items_are, fit_is, names_are_names}
use Rattle.hot_admit.proofs.Judging.{in_rise, in_met, in_few, refused_cycle, in_plan, admitted}
use Rattle.hot_admit.proofs.plan.admit.Goals as goal

pub returns-in-Err-clause-fault : goal.returns-in-Err-clause-fault
returns-in-Err-clause-fault c =
    rw c.of_conditions.ensures (refused_conditions _ _ c.in-Err.fault c.in-Err.ensures.fault)

-- the resources of a template come in byte order of their names
pub invariant_of-basis : goal.invariant_of-basis
invariant_of-basis c = record {
  rising = rw c.as_slice.ensures (order_is _
      (given_with c.args.bound.now.params c.args.files.now (standing c.args.catalog.now)) _ _
      (grounded c.parts-parts.ensures.exact c.parts-parts.ensures.rising c.parts-parts.ensures.right
      c.requires.template c.in-Ok.ensures.ok));
}

pub returns-in-Some-clause-fault : goal.returns-in-Some-clause-fault
returns-in-Some-clause-fault c =
    refused_entries _ (given_with c.args.bound.now.params c.args.files.now (standing c.args.catalog.now)) _ _
    (grounded c.parts-parts.ensures.exact c.parts-parts.ensures.rising c.parts-parts.ensures.right c.requires.template
    c.in-Ok.ensures.ok)
    c.in_ok-flaw.field-0 c.in-Some.flaw (rw (c.as_slice.ensures, c.as_slice-2.ensures) at c.in_ok-flaw.ensures)
    c.in-Some.is

pub items_of-requires-clause-size : goal.items_of-requires-clause-size
items_of-requires-clause-size c =
    rw (c.as_slice-3.ensures, c.as_slice.ensures) (counts _
    (given_with c.args.bound.now.params c.args.files.now (standing c.args.catalog.now)) _ _
    (grounded c.parts-parts.ensures.exact c.parts-parts.ensures.rising c.parts-parts.ensures.right c.requires.template
    c.in-Ok.ensures.ok))

pub items_of-requires-clause-fit : goal.items_of-requires-clause-fit
items_of-requires-clause-fit c =
    rw c.as_slice.ensures (fit_is _
    (given_with c.args.bound.now.params c.args.files.now (standing c.args.catalog.now)) _ _
    (grounded c.parts-parts.ensures.exact c.parts-parts.ensures.rising c.parts-parts.ensures.right c.requires.template
    c.in-Ok.ensures.ok)
    (own_none _ (given_with c.args.bound.now.params c.args.files.now (standing c.args.catalog.now)) _ _
    (grounded c.parts-parts.ensures.exact c.parts-parts.ensures.rising c.parts-parts.ensures.right c.requires.template
    c.in-Ok.ensures.ok)
    c.in_ok-flaw.field-0 (rw (c.as_slice.ensures, c.as_slice-2.ensures) at c.in_ok-flaw.ensures) c.in_default.is))

pub needs_cycle-requires-clause-rising : goal.needs_cycle-requires-clause-rising
needs_cycle-requires-clause-rising c =
    let items = (items_are _ (given_with c.args.bound.now.params c.args.files.now (standing c.args.catalog.now)) _ _
    (grounded c.parts-parts.ensures.exact c.parts-parts.ensures.rising c.parts-parts.ensures.right c.requires.template
    c.in-Ok.ensures.ok)
    c.as_slice.result.now c.as_slice-3.result.now c.in_ok-items.items c.as_slice.ensures c.as_slice-3.ensures
    c.in_ok-items.ensures) in
    rw (c.as_slice-4.ensures, items) (in_rise _
    (given_with c.args.bound.now.params c.args.files.now (standing c.args.catalog.now)) _ _
    (grounded c.parts-parts.ensures.exact c.parts-parts.ensures.rising c.parts-parts.ensures.right c.requires.template
    c.in-Ok.ensures.ok)
    (own_none _ (given_with c.args.bound.now.params c.args.files.now (standing c.args.catalog.now)) _ _
    (grounded c.parts-parts.ensures.exact c.parts-parts.ensures.rising c.parts-parts.ensures.right c.requires.template
    c.in-Ok.ensures.ok)
    c.in_ok-flaw.field-0 (rw (c.as_slice.ensures, c.as_slice-2.ensures) at c.in_ok-flaw.ensures) c.in_default.is))

pub needs_cycle-requires-clause-met : goal.needs_cycle-requires-clause-met
needs_cycle-requires-clause-met c =
    let items = (items_are _ (given_with c.args.bound.now.params c.args.files.now (standing c.args.catalog.now)) _ _
    (grounded c.parts-parts.ensures.exact c.parts-parts.ensures.rising c.parts-parts.ensures.right c.requires.template
    c.in-Ok.ensures.ok)
    c.as_slice.result.now c.as_slice-3.result.now c.in_ok-items.items c.as_slice.ensures c.as_slice-3.ensures
    c.in_ok-items.ensures) in
    rw (c.as_slice-4.ensures, items) (in_met _
    (given_with c.args.bound.now.params c.args.files.now (standing c.args.catalog.now)) _ _
    (grounded c.parts-parts.ensures.exact c.parts-parts.ensures.rising c.parts-parts.ensures.right c.requires.template
    c.in-Ok.ensures.ok)
    (own_none _ (given_with c.args.bound.now.params c.args.files.now (standing c.args.catalog.now)) _ _
    (grounded c.parts-parts.ensures.exact c.parts-parts.ensures.rising c.parts-parts.ensures.right c.requires.template
    c.in-Ok.ensures.ok)
    c.in_ok-flaw.field-0 (rw (c.as_slice.ensures, c.as_slice-2.ensures) at c.in_ok-flaw.ensures) c.in_default.is))

pub needs_cycle-requires-clause-few : goal.needs_cycle-requires-clause-few
needs_cycle-requires-clause-few c =
    let items = (items_are _ (given_with c.args.bound.now.params c.args.files.now (standing c.args.catalog.now)) _ _
    (grounded c.parts-parts.ensures.exact c.parts-parts.ensures.rising c.parts-parts.ensures.right c.requires.template
    c.in-Ok.ensures.ok)
    c.as_slice.result.now c.as_slice-3.result.now c.in_ok-items.items c.as_slice.ensures c.as_slice-3.ensures
    c.in_ok-items.ensures) in
    rw (c.as_slice-4.ensures, items) (in_few _
    (given_with c.args.bound.now.params c.args.files.now (standing c.args.catalog.now)) _ _
    (grounded c.parts-parts.ensures.exact c.parts-parts.ensures.rising c.parts-parts.ensures.right c.requires.template
    c.in-Ok.ensures.ok)
    (own_none _ (given_with c.args.bound.now.params c.args.files.now (standing c.args.catalog.now)) _ _
    (grounded c.parts-parts.ensures.exact c.parts-parts.ensures.rising c.parts-parts.ensures.right c.requires.template
    c.in-Ok.ensures.ok)
    c.in_ok-flaw.field-0 (rw (c.as_slice.ensures, c.as_slice-2.ensures) at c.in_ok-flaw.ensures) c.in_default.is))

pub returns-in-Some-2-clause-fault : goal.returns-in-Some-2-clause-fault
returns-in-Some-2-clause-fault c =
    let items = (items_are _ (given_with c.args.bound.now.params c.args.files.now (standing c.args.catalog.now)) _ _
    (grounded c.parts-parts.ensures.exact c.parts-parts.ensures.rising c.parts-parts.ensures.right c.requires.template
    c.in-Ok.ensures.ok)
    c.as_slice.result.now c.as_slice-3.result.now c.in_ok-items.items c.as_slice.ensures c.as_slice-3.ensures
    c.in_ok-items.ensures) in
    rw c.at.ensures (refused_cycle _
    (given_with c.args.bound.now.params c.args.files.now (standing c.args.catalog.now)) _ _
    (grounded c.parts-parts.ensures.exact c.parts-parts.ensures.rising c.parts-parts.ensures.right c.requires.template
    c.in-Ok.ensures.ok)
    (own_none _ (given_with c.args.bound.now.params c.args.files.now (standing c.args.catalog.now)) _ _
    (grounded c.parts-parts.ensures.exact c.parts-parts.ensures.rising c.parts-parts.ensures.right c.requires.template
    c.in-Ok.ensures.ok)
    c.in_ok-flaw.field-0 (rw (c.as_slice.ensures, c.as_slice-2.ensures) at c.in_ok-flaw.ensures) c.in_default.is)
    c.in-Some-2.path (rw (c.as_slice-4.ensures, items) at (rw c.in-Some-2.is at c.in_ok-path.ensures)))

pub plan_of-requires-clause-resources : goal.plan_of-requires-clause-resources
plan_of-requires-clause-resources c =
    counts _ (given_with c.args.bound.now.params c.args.files.now (standing c.args.catalog.now)) _ _
    (grounded c.parts-parts.ensures.exact c.parts-parts.ensures.rising c.parts-parts.ensures.right c.requires.template
    c.in-Ok.ensures.ok)

pub plan_of-requires-clause-outputs : goal.plan_of-requires-clause-outputs
plan_of-requires-clause-outputs c =
    output_counts _ (given_with c.args.bound.now.params c.args.files.now (standing c.args.catalog.now)) _ _
    (grounded c.parts-parts.ensures.exact c.parts-parts.ensures.rising c.parts-parts.ensures.right c.requires.template
    c.in-Ok.ensures.ok)

pub plan_of-requires-clause-names : goal.plan_of-requires-clause-names
plan_of-requires-clause-names c =
    names_are_names _ (given_with c.args.bound.now.params c.args.files.now (standing c.args.catalog.now)) _ _
    (grounded c.parts-parts.ensures.exact c.parts-parts.ensures.rising c.parts-parts.ensures.right c.requires.template
    c.in-Ok.ensures.ok)
    (own_none _ (given_with c.args.bound.now.params c.args.files.now (standing c.args.catalog.now)) _ _
    (grounded c.parts-parts.ensures.exact c.parts-parts.ensures.rising c.parts-parts.ensures.right c.requires.template
    c.in-Ok.ensures.ok)
    c.in_ok-flaw.field-0 (rw (c.as_slice.ensures, c.as_slice-2.ensures) at c.in_ok-flaw.ensures) c.in_default.is)

pub plan_of-requires-clause-depth : goal.plan_of-requires-clause-depth
plan_of-requires-clause-depth c =
    outputs_shallow _ (given_with c.args.bound.now.params c.args.files.now (standing c.args.catalog.now)) _ _
    (grounded c.parts-parts.ensures.exact c.parts-parts.ensures.rising c.parts-parts.ensures.right c.requires.template
    c.in-Ok.ensures.ok)

pub plan_of-requires-clause-plan : goal.plan_of-requires-clause-plan
plan_of-requires-clause-plan c =
    let items = (items_are _ (given_with c.args.bound.now.params c.args.files.now (standing c.args.catalog.now)) _ _
    (grounded c.parts-parts.ensures.exact c.parts-parts.ensures.rising c.parts-parts.ensures.right c.requires.template
    c.in-Ok.ensures.ok)
    c.as_slice.result.now c.as_slice-3.result.now c.in_ok-items.items c.as_slice.ensures c.as_slice-3.ensures
    c.in_ok-items.ensures) in
    rw items (in_plan _ (given_with c.args.bound.now.params c.args.files.now (standing c.args.catalog.now)) _ _
    (grounded c.parts-parts.ensures.exact c.parts-parts.ensures.rising c.parts-parts.ensures.right c.requires.template
    c.in-Ok.ensures.ok)
    (own_none _ (given_with c.args.bound.now.params c.args.files.now (standing c.args.catalog.now)) _ _
    (grounded c.parts-parts.ensures.exact c.parts-parts.ensures.rising c.parts-parts.ensures.right c.requires.template
    c.in-Ok.ensures.ok)
    c.in_ok-flaw.field-0 (rw (c.as_slice.ensures, c.as_slice-2.ensures) at c.in_ok-flaw.ensures) c.in_default.is)
    (rw (c.as_slice-4.ensures, items) at (rw c.in_default-2.is at c.in_ok-path.ensures)))

pub returns-clause-ok : goal.returns-clause-ok
returns-clause-ok c =
    let items = (items_are _ (given_with c.args.bound.now.params c.args.files.now (standing c.args.catalog.now)) _ _
    (grounded c.parts-parts.ensures.exact c.parts-parts.ensures.rising c.parts-parts.ensures.right c.requires.template
    c.in-Ok.ensures.ok)
    c.as_slice.result.now c.as_slice-3.result.now c.in_ok-items.items c.as_slice.ensures c.as_slice-3.ensures
    c.in_ok-items.ensures) in
    admitted _ (given_with c.args.bound.now.params c.args.files.now (standing c.args.catalog.now)) _ _
    (grounded c.parts-parts.ensures.exact c.parts-parts.ensures.rising c.parts-parts.ensures.right c.requires.template
    c.in-Ok.ensures.ok)
    (own_none _ (given_with c.args.bound.now.params c.args.files.now (standing c.args.catalog.now)) _ _
    (grounded c.parts-parts.ensures.exact c.parts-parts.ensures.rising c.parts-parts.ensures.right c.requires.template
    c.in-Ok.ensures.ok)
    c.in_ok-flaw.field-0 (rw (c.as_slice.ensures, c.as_slice-2.ensures) at c.in_ok-flaw.ensures) c.in_default.is)
    c.in_ok-plan_of.field-0 (rw (c.as_slice-4.ensures, items) at (rw c.in_default-2.is at c.in_ok-path.ensures))
    (rw items at c.in_ok-plan_of.ensures)
