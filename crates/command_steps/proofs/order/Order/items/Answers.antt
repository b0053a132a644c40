use Rattle.std.specs.List.Sorted.{IsStrictlySortedBy}
use Rattle.command_steps.proofs.order.Order.items.Goals as goal

pub returns-in-None-clause-rising : goal.returns-in-None-clause-rising
unfolding IsStrictlySortedBy
returns-in-None-clause-rising c = tt
