use Rattle.std.proofs.Common.{Some, None}
use Rattle.hot_eval.proofs.Places.{got_step}
use Rattle.hot_eval.proofs.fillings.literal.item_step.Goals as goal

pub returns-in-Some : goal.returns-in-Some
returns-in-Some c = got_step c.args.values.now c.args.at (Some c.in-Some.value) c.in-Some.ensures.lookup

pub returns-in-None : goal.returns-in-None
returns-in-None c = got_step c.args.values.now c.args.at None c.in-None.ensures.lookup
