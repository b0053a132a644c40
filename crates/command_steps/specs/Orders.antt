-- What an order sets.
use Rattle.step_relation.specs.Commands.{Sets}
use Rattle.command_steps.specs.declared.order.Order.{Order}

abbrev pub sets_of : Order → Sets
sets_of o = record { actor = o.actor; no_ = o.no; act = o.act; plan = o.plan; past = o.past; stacks = o.stacks }
