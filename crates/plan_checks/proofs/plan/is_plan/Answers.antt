use Rattle.std.proofs.Common.{Bool, IsTrue, ◌↔◌}
use Rattle.std.proofs.lemmas.Result.{IfOk-weaker}
use Rattle.heat_plan.specs.Plans.{HasNoCycle, IsPlan}
use Rattle.plan_checks.proofs.plan.is_plan.Goals as goal

pub have_no_cycle-requires-clause-met : goal.have_no_cycle-requires-clause-met
have_no_cycle-requires-clause-met c = c.are_met.ensures.0 c.if-not-are_met.false

pub returns : goal.returns
returns c =
    IfOk-weaker c.have_no_cycle.result (λ (b : Bool). IsTrue b ↔ HasNoCycle c.args.items.now)
    (λ (b : Bool). IsTrue b ↔ IsPlan c.args.items.now c.args.absent.now)
    (λ b h. (
      λ yes. record {
        rising = c.are_in_order.ensures.0 c.if-not-are_in_order.false;
        met = c.are_met.ensures.0 c.if-not-are_met.false;
        acyclic = h.0 yes;
        apart = c.are_apart.ensures.0 c.if-not-are_apart.false;
      },
      λ plan. h.1 plan.acyclic,
    ))
    c.have_no_cycle.ensures
