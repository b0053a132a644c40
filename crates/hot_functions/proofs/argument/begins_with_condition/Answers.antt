use Rattle.std.proofs.Common.{refl}
use Rattle.hot_functions.proofs.Lengths.{no_values, first_value}
use Rattle.hot_functions.proofs.argument.begins_with_condition.Goals as goal

pub returns-in-empty : goal.returns-in-empty
returns-in-empty c = rw (no_values c.args.values.now c.in-empty.len_below) refl

pub returns-in-len1-up : goal.returns-in-len1-up
returns-in-len1-up c =
    rw (first_value c.args.values.now c.first-item.result c.first-item.is c.in-len1-up.len_at_least)
    c.is_condition.ensures
