use Rattle.std.proofs.Common.{◌↔◌, drop}
use Rattle.heat_value.specs.Meaning.{members_of}
use Rattle.script_lines.specs.BodyKeys.{AreTexts}
use Rattle.script_lines.proofs.sort.are_texts.Given as goal

-- what is left decides
abbrev pub invariant-loop-member : goal.invariant-loop-member
invariant-loop-member l = AreTexts l.fields ↔ AreTexts (members_of (drop l.member-index l.member-items))
