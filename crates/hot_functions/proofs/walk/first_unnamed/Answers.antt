use Rattle.std.proofs.Common.{refl}
use Rattle.hot_functions.proofs.Lengths.{no_values, first_value}
use Rattle.hot_functions.proofs.walk.first_unnamed.Goals as goal

pub returns-in-empty : goal.returns-in-empty
returns-in-empty c = rw (no_values c.args.values.now c.in-empty.len_below) refl
