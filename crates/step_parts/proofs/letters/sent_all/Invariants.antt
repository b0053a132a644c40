use Rattle.std.proofs.Common.{◌≡◌, map, take}
use Rattle.core_state.specs.declared.entry.MailWrite.TheVariants.{Sent}
use Rattle.step_parts.proofs.letters.sent_all.Given as goal

abbrev pub invariant-loop-letter : goal.invariant-loop-letter
invariant-loop-letter l = l.writes ≡ map Sent (take l.letter-index l.letters)
