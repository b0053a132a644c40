use Rattle.std.proofs.Common.{refl}
use Rattle.row_journal.proofs.Next.{place_of_snapshot}
use Rattle.row_journal.proofs.place.Place.after_snapshot.Goals as goal

pub returns-clause-next : goal.returns-clause-next
returns-clause-next c image payload is len = place_of_snapshot c.args.self _ image payload c.args.len is len c.other.ensures refl refl refl refl refl refl
