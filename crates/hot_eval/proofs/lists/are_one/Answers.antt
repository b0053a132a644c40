use Rattle.hot_eval.proofs.Sames.{answers_same}
use Rattle.hot_eval.proofs.lists.are_one.Goals as goal

pub returns : goal.returns
returns c = answers_same c.args.one.now c.args.other.now c.equals.result c.equals.ensures
