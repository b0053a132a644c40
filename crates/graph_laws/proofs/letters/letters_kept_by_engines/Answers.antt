use Rattle.graph_laws.proofs.letters.Engines.{letters_kept}
use Rattle.graph_laws.proofs.letters.letters_kept_by_engines.Goals as goal

pub returns : goal.returns
returns c = letters_kept
