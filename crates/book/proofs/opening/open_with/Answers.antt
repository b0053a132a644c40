-- The image that was read, what the cloud lists, and the engines in its place.
use Rattle.book.proofs.Openers.{opens_started, opens_unadmitted, opens_unread, read_rows, read_storable}
use Rattle.book.proofs.Restarted.{read_as}
use Rattle.book.proofs.opening.open_with.Goals as goal

pub begin_with-requires-clause-keepable : goal.begin_with-requires-clause-keepable
begin_with-requires-clause-keepable g c = read_rows _ _ _ c.in-Ok.ensures.opened

pub begin_with-requires-clause-storable : goal.begin_with-requires-clause-storable
begin_with-requires-clause-storable g c n = read_storable _ _ _ c.in-Ok.ensures.opened n

pub returns-in-Ok-admit : goal.returns-in-Ok-admit
returns-in-Ok-admit g c = opens_started _ c.args.workers _ _ _ _ _ _ _ c.in-Ok.ensures.opened c.open.ensures.goes_on
    c.open.ensures.crash c.requires.some c.requires.few _ _ c.admit.result c.admit.ensures c.in-Ok-admit.is
    c.begin_with.result c.begin_with.ensures

pub returns-in-Err-admit : goal.returns-in-Err-admit
returns-in-Err-admit g c = opens_unadmitted _ c.args.workers _ _ _ _ _ _ _ c.in-Ok.ensures.opened c.open.ensures.goes_on
    c.open.ensures.crash c.admit.result c.in-Err-admit.why c.admit.ensures c.in-Err-admit.is

pub returns-in-Err : goal.returns-in-Err
returns-in-Err g c = rw c.unread.ensures (opens_unread _ c.args.workers _ _ _ _ _ c.in-Err.fault c.open.ensures.goes_on
    c.open.ensures.crash (λ f. c.open.ensures.foreign (read_as _ _ _ c.in-Err.is f))
    (λ f. c.open.ensures.cause (read_as _ _ _ c.in-Err.is f)))
