use Rattle.graph_laws.proofs.letters.Moves.{letters_moved}
use Rattle.graph_laws.proofs.letters.letters_kept_by_moves.Goals as goal

pub returns : goal.returns
returns c = letters_moved
