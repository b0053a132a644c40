-- At its root an evaluation is the whole one.
use Rattle.std.proofs.Common.{refl}
use Rattle.eval_words.specs.Conditions.{in_conditions}
use Rattle.eval_words.specs.ValuedConds.{valued_data}
use Rattle.hot_eval.proofs.Made.{root_is}
use Rattle.hot_eval.proofs.conditions.setting.Goals as goal

pub returns-clause-again : goal.returns-clause-again
returns-clause-again c =
    root_is c.root.result.repeats (in_conditions c.args.params.now (valued_data c.args.known))
    (in_conditions c.args.params.now (valued_data c.args.known)) c.root.ensures.repeats refl
