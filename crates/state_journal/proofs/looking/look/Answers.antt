-- By the contents of the journal.
use Rattle.state_journal.proofs.Telling.{holds_none, read_found}
use Rattle.state_journal.proofs.looking.look.Goals as goal

pub returns-in-Ok-clause-read : goal.returns-in-Ok-clause-read
returns-in-Ok-clause-read g c tells = read_found (g.D.Disk.shown c.args.journal.now.disk).seen c.in-Ok.contents
    (c.in-Ok.ensures.contents tells) c.held.result c.held.ensures.some c.held.ensures.known

pub returns-in-Ok-clause-foreign : goal.returns-in-Ok-clause-foreign
returns-in-Ok-clause-foreign g c is tells s holds = holds_none (g.D.Disk.shown c.args.journal.now.disk).seen
    c.in-Ok.contents (c.in-Ok.ensures.contents tells) (c.held.ensures.none is) s holds
