use Rattle.std.proofs.Common.{map, take, ◌*◌, ◌≤◌}
use Rattle.mail_table.specs.Mails.{letter_key}
use Rattle.driver.proofs.Tables.{LettersSeen}
use Rattle.driver.proofs.letters.letters_work.Given as goal

abbrev pub invariant-loop-letter : goal.invariant-loop-letter
invariant-loop-letter l =
    LettersSeen l.s.state (map letter_key (take l.letter-index l.letter-items)) l.sum × (l.sum ≤ 138 * l.letter-index)
