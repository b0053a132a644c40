use Rattle.mail_table.proofs.Finding.{LowestSoFar}
use Rattle.mail_table.proofs.list_mails.ListMails.lowest.Given as goal

abbrev pub invariant-loop-letter : goal.invariant-loop-letter
invariant-loop-letter l = LowestSoFar l.self.mail.letters l.letter-index l.lowest
