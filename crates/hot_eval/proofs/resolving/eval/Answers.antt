use Rattle.heat_value.specs.Meaning.{data_of}
use Rattle.hot_eval.specs.Answers.{again, levels}
use Rattle.eval_words.specs.Scenes.{scene_data, scene_of}
use Rattle.hot_eval.proofs.Made.{made_of, eval_is}
use Rattle.hot_eval.proofs.resolving.eval.Goals as goal

pub returns : goal.returns
returns c =
    made_of data_of c.value.result _ _ _
    (eval_is (again c.setting.result) (scene_of c.args.plan.now c.args.known.now) (scene_data c.setting.result.scene) (levels c.setting.result)
    (data_of c.args.given.now) _ c.setting.ensures.scene c.setting.ensures.again c.setting.ensures.levels c.new.ensures)
    c.value.ensures.outcome
