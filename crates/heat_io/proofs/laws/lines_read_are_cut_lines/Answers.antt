use Rattle.heat_io.proofs.Runs.{are_lines}
use Rattle.heat_io.proofs.laws.lines_read_are_cut_lines.Goals as goal

pub returns : goal.returns
returns c = are_lines
