use Rattle.heat_plan.proofs.OneItem.{one_is_plan}
use Rattle.sample_plans.proofs.plans.plan_of.Goals as goal

pub plan_with-requires : goal.plan_with-requires
plan_with-requires c = rw (c.in_ok-push.ensures.ok, c.new-items.ensures) (one_is_plan c.args.item c.requires)
