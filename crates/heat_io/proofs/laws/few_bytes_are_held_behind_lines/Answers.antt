use Rattle.heat_io.proofs.Takings.{few_held}
use Rattle.heat_io.proofs.laws.few_bytes_are_held_behind_lines.Goals as goal

pub returns : goal.returns
returns c = few_held
