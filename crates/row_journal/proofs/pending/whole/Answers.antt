-- Behind the one payload no byte 00 stands.
use Rattle.row_journal.proofs.Whole.{not_whole}
use Rattle.row_journal.proofs.pending.whole.Goals as goal

pub returns-then-not-is_closed : goal.returns-then-not-is_closed
returns-then-not-is_closed c = not_whole c.args.version c.args.number c.in-Some.payload.now c.in-Some.rest.now
    c.args.bytes.now c.in-Some.ensures.some c.in-Some.ensures.sized
    (λ closed. let yes = c.is_closed.ensures.1 closed in let no = c.if-not-is_closed.true in cc)
