use Rattle.std.proofs.lemmas.Result.{err_from_is_err_and}
use Rattle.hot_eval.specs.Answers.{again, levels}
use Rattle.eval_words.specs.Scenes.{scene_data, scene_of}
use Rattle.hot_eval.proofs.Made.{large_fault, made_by, properties_are}
use Rattle.hot_eval.proofs.resolving.properties.Goals as goal

pub returns : goal.returns
returns c =
    made_by _ c.large_or.result _ _ _
    (properties_are (again c.setting.result) (scene_of c.args.plan.now c.args.known.now)
    (scene_data c.setting.result.scene) (levels c.setting.result) c.args.given.now c.as_props.result.now _ c.setting.ensures.scene
    c.setting.ensures.again c.setting.ensures.levels c.new.ensures c.as_props.ensures.value)
    c.in_ok-made.ensures.outcome c.large_or.ensures

pub returns-in_err-made : goal.returns-in_err-made
returns-in_err-made c =
    let p = err_from_is_err_and c.from_residual.result c.from_residual.ensures.1 in
    rw (p.1, p.2) (large_fault _ _ _
    (properties_are (again c.setting.result) (scene_of c.args.plan.now c.args.known.now)
    (scene_data c.setting.result.scene) (levels c.setting.result) c.args.given.now c.as_props.result.now _ c.setting.ensures.scene
    c.setting.ensures.again c.setting.ensures.levels c.new.ensures c.as_props.ensures.value)
    c.in_err-made.ensures.outcome)
