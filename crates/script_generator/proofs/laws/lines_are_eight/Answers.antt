use Rattle.script_generator.proofs.LineEnds.{eight_clear_lines}
use Rattle.script_generator.proofs.laws.lines_are_eight.Goals as goal

pub returns : goal.returns
returns c = λ n most. eight_clear_lines n most
