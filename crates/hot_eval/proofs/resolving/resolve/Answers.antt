use Rattle.eval_words.specs.Resolutions.{resolve}
use Rattle.hot_eval.proofs.resolving.resolve.Goals as goal

pub returns : goal.returns
unfolding resolve
returns c = c.of_item.ensures _ c.properties-made.ensures
