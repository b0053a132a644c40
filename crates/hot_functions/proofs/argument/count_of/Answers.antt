use Rattle.hot_functions.proofs.Lengths.{count_length}
use Rattle.hot_functions.proofs.argument.count_of.Goals as goal

pub returns : goal.returns
returns c = count_length c.args.values.now
