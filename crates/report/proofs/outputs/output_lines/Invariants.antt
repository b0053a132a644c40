use Rattle.std.proofs.Common.{◌≡◌, [], drop}
use Rattle.eval_words.specs.Scenes.{scene_of}
use Rattle.report.specs.Outputs.{output_lines}
use Rattle.report.proofs.outputs.output_lines.Given as goal

abbrev pub invariant-loop-output : goal.invariant-loop-output
invariant-loop-output l = output_lines l.lines.items (scene_of l.plan l.known) (drop l.output-index l.plan.outputs)
    ≡ output_lines [] (scene_of l.plan l.known) l.plan.outputs
