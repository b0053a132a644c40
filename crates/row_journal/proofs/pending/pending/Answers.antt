-- The gate isn't closed.
use Rattle.row_journal.proofs.Whole.{behind_torn}
use Rattle.row_journal.proofs.pending.pending.Goals as goal

pub returns-in-len1-up : goal.returns-in-len1-up
returns-in-len1-up c = behind_torn c.args.version c.args.number c.behind.result.now _ c.behind.ensures
    c.in-len1-up.len_at_least c.if-gate-ne0.true c.whole.result c.whole.ensures
