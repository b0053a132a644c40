use Rattle.std.proofs.Common.{◌≡◌, ◌∙◌, Some, ap, subst, sym}
use Rattle.std.specs.Prelude.{option_map}
use Rattle.core_state.specs.Reads.{item_at}
use Rattle.core_state.specs.declared.stack.Stack.{Stack}
use Rattle.step_relation.specs.Freshness.{plan_of}
use Rattle.history_laws.proofs.tables.Rows.{same_some}
use Rattle.check_steps.proofs.PartsRead.{has_plan, has_point, parts_at}
use Rattle.check_steps.proofs.begin_parts.parts_of.Goals as goal

pub plan_in-plan-requires : goal.plan_in-plan-requires
plan_in-plan-requires c =
    let at = c.requires.1 in
    let is : at.stack ≡ c.unwrap-stack.result.now =
    same_some at.stack c.unwrap-stack.result.now at.names.in_table
    (sym c.stack.ensures ∙ ap (option_map (λ x. x.now)) c.unwrap-stack.ensures) in
    has_plan _ at.name at.item (subst (λ (x : Stack). item_at (plan_of x.plan).items at.name ≡ Some at.item) is
    at.asked)

pub unwrap-point-requires : goal.unwrap-point-requires
unwrap-point-requires c = has_point _ _ _ c.unwrap-graph.result.now _ _ c.requires.1
    (sym c.graph.ensures ∙ ap (option_map (λ x. x.now)) c.unwrap-graph.ensures) c.get.ensures

pub returns : goal.returns
returns c = λ e at. parts_at _ _ _ _ c.unwrap-graph.result.now c.plan.result.now c.name_at.result.now at
    (sym c.stack.ensures ∙ ap (option_map (λ x. x.now)) c.unwrap-stack.ensures)
    (sym c.graph.ensures ∙ ap (option_map (λ x. x.now)) c.unwrap-graph.ensures)
    (sym c.get.ensures ∙ ap (option_map (λ x. x.now)) c.unwrap-point.ensures)
    c.plan_in-plan.ensures
    c.plan.ensures
    (λ asked chosen is. c.name_at.ensures asked chosen is)
    (sym c.item_of.ensures ∙ ap (option_map (λ x. x.now)) c.unwrap-item.ensures)
    (sym c.row.ensures ∙ ap (option_map (λ x. x.now)) c.unwrap-row.ensures)
