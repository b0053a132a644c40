use Rattle.script_lines.proofs.Alone.{lone_begins, lone_ends}
use Rattle.script_lines.proofs.behind.lone_word.Goals as goal

pub returns-in_default : goal.returns-in_default
returns-in_default c w is = lone_begins _ w c.in_default.ensures is

pub returns-then-not-is_blank : goal.returns-then-not-is_blank
returns-then-not-is_blank c w is = let blank = c.if-not-is_blank.ensures.1 (lone_ends _ _ _ w c.in-Some.ensures is) in cc
