use Rattle.hot_forms.proofs.Lengths.{none_empty, some_not_empty}
use Rattle.hot_forms.proofs.argument.is_empty.Goals as goal

pub returns-in-empty : goal.returns-in-empty
returns-in-empty c = none_empty _ c.in-empty.len_below

pub returns-in_default : goal.returns-in_default
returns-in_default c = some_not_empty _ c.in_default.len_at_least
