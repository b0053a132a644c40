use Rattle.std.proofs.Common.{◌≡◌, ◌∷◌, map, take}
use Rattle.core_state.specs.declared.entry.MailWrite.TheVariants.{Ended, Sent}
use Rattle.step_parts.proofs.releases.ended_and_sent.Given as goal

abbrev pub invariant-loop-letter : goal.invariant-loop-letter
invariant-loop-letter l = l.writes ≡ Ended l.fn.of ∷ map Sent (take l.letter-index l.letters)
