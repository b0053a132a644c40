use Rattle.std.proofs.Common.{◌≡◌, drop}
use Rattle.heat_value.specs.Meaning.{members_of}
use Rattle.eval_words.specs.Maps.{hold_texts}
use Rattle.hot_eval.proofs.maps.hold_texts.Given as goal

-- what is left decides
abbrev pub invariant-loop-member : goal.invariant-loop-member
invariant-loop-member l = hold_texts (members_of l.members) ≡ hold_texts (members_of (drop l.member-index l.members))
