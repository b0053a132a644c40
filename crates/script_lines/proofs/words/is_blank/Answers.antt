use Rattle.script_lines.proofs.WordLemmas.{no_word}
use Rattle.script_lines.proofs.words.is_blank.Goals as goal

pub returns-in-Some : goal.returns-in-Some
returns-in-Some c = ((λ t. cc), λ spaces. absurd (no_word _ _ _ c.in-Some.ensures spaces))
