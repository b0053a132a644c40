use Rattle.hot_forms.proofs.Lengths.{short_modulo, long_modulo}
use Rattle.hot_forms.proofs.argument.is_offset_and_step.Goals as goal

pub returns-in_default : goal.returns-in_default
returns-in_default c = short_modulo _ c.in_default.len_below

pub returns-in_default-2 : goal.returns-in_default-2
returns-in_default-2 c = long_modulo _ c.in_default.len_at_least
