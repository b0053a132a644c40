use Rattle.script_generator.proofs.Keys.{so_many}
use Rattle.script_generator.proofs.laws.resources_are_so_many.Goals as goal

pub returns : goal.returns
returns c = λ body n. so_many body 1 n
