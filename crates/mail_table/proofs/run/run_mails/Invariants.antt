use Rattle.std.proofs.Common.{take}
use Rattle.mail_table.specs.Runs.{Runs}
use Rattle.mail_table.proofs.run.run_mails.Given as goal

abbrev pub invariant-loop-op : goal.invariant-loop-op
invariant-loop-op g l = Runs (take l.op-index l.ops) (g.R.Mails.content l.fn.mails).mail l.answers (g.R.Mails.content l.mails).mail
