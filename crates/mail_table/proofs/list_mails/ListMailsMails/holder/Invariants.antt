use Rattle.mail_table.proofs.Finding.{HolderSoFar}
use Rattle.mail_table.proofs.list_mails.ListMailsMails.holder.Given as goal

abbrev pub invariant-loop-job : goal.invariant-loop-job
invariant-loop-job l = HolderSoFar l.self.mail.jobs l.stack l.row l.job-index l.holder
