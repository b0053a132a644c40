use Rattle.graph_laws.proofs.letters.Commands.{letters_laid}
use Rattle.graph_laws.proofs.letters.letters_kept_by_commands.Goals as goal

pub returns : goal.returns
returns c = letters_laid
