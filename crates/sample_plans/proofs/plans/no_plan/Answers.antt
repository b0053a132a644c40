use Rattle.sample_plans.proofs.NoItems.{no_item_is_plan}
use Rattle.sample_plans.proofs.plans.no_plan.Goals as goal

pub plan_with-requires : goal.plan_with-requires
plan_with-requires c = no_item_is_plan _ _ c.new.ensures
