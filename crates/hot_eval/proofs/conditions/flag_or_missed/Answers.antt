-- What the evaluation makes is a flag or isn't, and a fault is none.
use Rattle.std.proofs.Common.{◌∙◌}
use Rattle.heat_value.specs.Meaning.{data_of}
use Rattle.hot_eval.specs.Answers.{again, levels}
use Rattle.eval_words.specs.Conditions.{in_conditions}
use Rattle.eval_words.specs.ValuedConds.{valued_data}
use Rattle.eval_words.specs.Scenes.{scene_data}
use Rattle.hot_eval.proofs.Flags.{flag_is}
use Rattle.hot_eval.proofs.conditions.flag_or_missed.Goals as goal

pub returns-in-Ok : goal.returns-in-Ok
returns-in-Ok c =
    c.flag_in.ensures
    ∙ flag_is (again c.setting.result) (in_conditions c.args.params.now (valued_data c.args.known))
    (scene_data c.setting.result.scene) (levels c.setting.result) (data_of c.args.given.now) _ _ c.setting.ensures.scene c.setting.ensures.again c.setting.ensures.levels
    c.new-sum.ensures c.in-Ok.ensures.outcome

pub returns-in-Err-Wrong : goal.returns-in-Err-Wrong
returns-in-Err-Wrong c =
    flag_is (again c.setting.result) (in_conditions c.args.params.now (valued_data c.args.known))
    (scene_data c.setting.result.scene) (levels c.setting.result) (data_of c.args.given.now) _ _ c.setting.ensures.scene c.setting.ensures.again c.setting.ensures.levels
    c.new-sum.ensures (rw c.in-Err-Wrong.field-0-is at c.in-Err-Wrong.ensures.outcome)
