use Rattle.std.proofs.Common.{arith}
use Rattle.script_lines.proofs.Alone.{text_is_some}
use Rattle.script_lines.proofs.behind.text_behind.Goals as goal

pub returns-then-is_empty : goal.returns-then-is_empty
returns-then-is_empty c t is = grind (arith, text_is_some _ _ t c.behind_spaces-text.ensures is, c.is_empty.ensures, c.if-is_empty.true)
