use Rattle.heat_value.specs.OrderLaws.{value_cmp_total, value_cmp_exact}
use Rattle.heat_value.proofs.value.ordering.values_are_ordered.Goals as goal

pub returns-clause-total : goal.returns-clause-total
returns-clause-total t = value_cmp_total

pub returns-clause-exact : goal.returns-clause-exact
returns-clause-exact t = value_cmp_exact
