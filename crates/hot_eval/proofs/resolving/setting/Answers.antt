use Rattle.eval_words.specs.Scenes.{scene_data, scene_of}
use Rattle.hot_eval.proofs.Made.{root_is, root_reads}
use Rattle.hot_eval.proofs.resolving.setting.Goals as goal

pub returns-clause-again : goal.returns-clause-again
returns-clause-again c =
    root_is c.root.result.repeats (scene_of c.args.plan.now c.args.known.now) (scene_data c.of_plan.result)
    c.root.ensures.repeats c.of_plan.ensures

pub returns-clause-reads : goal.returns-clause-reads
returns-clause-reads c =
    root_reads c.root.result.repeats (scene_of c.args.plan.now c.args.known.now) (scene_data c.of_plan.result)
    c.root.ensures.repeats c.of_plan.ensures
