use Rattle.script_lines.proofs.Alone.{no_word_and_text, text_at_word}
use Rattle.script_lines.proofs.behind.word_and_text.Goals as goal

pub returns-in_default : goal.returns-in_default
returns-in_default c w t is = no_word_and_text _ w t c.in_default.ensures is

pub returns-in_default-text_behind : goal.returns-in_default-text_behind
returns-in_default-text_behind c w t is = c.in_default-text_behind.ensures t (text_at_word _ _ _ w t c.in-Some.ensures is)
