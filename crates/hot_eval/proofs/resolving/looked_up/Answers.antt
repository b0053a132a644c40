use Rattle.eval_words.specs.Scenes.{scene_data}
use Rattle.hot_eval.specs.Answers.{again, levels}
use Rattle.hot_eval.specs.Noted.{reads_again}
use Rattle.hot_eval.proofs.Told.{told_all, properties_told, names_are, names_there}
use Rattle.hot_eval.proofs.resolving.looked_up.Goals as goal

pub returns : goal.returns
returns c =
    names_are c.in-Some.names.items _ _ _ c.in-Some.ensures
    (told_all c.members-made.result _ _ _ c.in_ok-told.ensures c.asked-looked.ensures c.members-made.ensures.looks)
    (properties_told c.args.plan.now c.args.item.now c.args.known.now (again c.setting.result) (reads_again c.setting.result)
    (scene_data c.setting.result.scene) (levels c.setting.result) _ c.as_props.result.now c.setting.ensures.scene c.setting.ensures.again
    c.setting.ensures.reads c.setting.ensures.levels c.new.ensures c.as_props.ensures.value)

pub unreachable-requires : goal.unreachable-requires
unreachable-requires c =
    names_there _ _ c.in-None.ensures
    (told_all c.members-made.result _ _ _ c.in_ok-told.ensures c.asked-looked.ensures c.members-made.ensures.looks)
