use Rattle.row_codec.specs.Changes.{spelled}
use Rattle.row_codec.proofs.PayloadLemmas.{kept_all, same_room}
use Rattle.row_codec.proofs.payloads.fill.Goals as goal

pub returns-clause-bytes : goal.returns-clause-bytes
returns-clause-bytes c = rw (c.put_changes.ensures.bytes, c.clear.ensures)
    (kept_all (spelled c.args.changes.now) c.args.sheet.now.room c.requires)

pub returns-clause-room : goal.returns-clause-room
returns-clause-room c = rw (c.put_changes.ensures.bytes, c.clear.ensures)
    (same_room (spelled c.args.changes.now) c.args.sheet.now.room)

pub returns-clause-proper : goal.returns-clause-proper
returns-clause-proper c = λ may. (
  rw (c.put_changes.ensures.bytes, c.clear.ensures) (kept_all (spelled c.args.changes.now) c.args.sheet.now.room c.requires),
  c.put_changes.ensures.proper may,
)
