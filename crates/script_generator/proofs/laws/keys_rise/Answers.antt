use Rattle.script_generator.proofs.Keys.{body_rises}
use Rattle.script_generator.proofs.laws.keys_rise.Goals as goal

pub returns : goal.returns
returns c = λ body n most. body_rises body n most
