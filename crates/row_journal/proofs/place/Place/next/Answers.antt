use Rattle.std.proofs.Common.{refl}
use Rattle.row_journal.proofs.Next.{place_next}
use Rattle.row_journal.proofs.place.Place.next.Goals as goal

pub returns-clause-next : goal.returns-clause-next
returns-clause-next c image payload is two len =
    place_next image payload two c.args.self _ c.args.len is len refl refl refl refl refl c.first_end_with.ensures refl
