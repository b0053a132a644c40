use Rattle.sample_plans.proofs.NoItems.{no_item_is_plan}
use Rattle.template_examples.proofs.plans.plan_of.Goals as goal

pub new-requires-3 : goal.new-requires-3
new-requires-3 c = no_item_is_plan _ _ c.new.ensures
