use Rattle.row_codec.proofs.PayloadLemmas.{same_room}
use Rattle.state_images.specs.Snapshots.{snapshot}
use Rattle.state_images.proofs.Snapshotting.{made_snapshot}
use Rattle.std.proofs.Common.{◌≡◌, ◌∙◌, ap}
use Rattle.plan_codec.specs.Sheets.{SheetData, behind, blank}
use Rattle.snapshot_codec.specs.Puts.{numbered}
use Rattle.snapshot_codec.proofs.Spelled.{are_fewer, kept_is, kept_proper}
use Rattle.snapshot_codec.proofs.payload.fill.Goals as goal

pub returns-clause-bytes : goal.returns-clause-bytes
returns-clause-bytes c =
    let cs = snapshot c.args.s.now.state in
    let put : c.put_snapshot.new.sheet ≡ behind (blank c.args.sheet.now.room) (numbered cs) =
    c.put_snapshot.ensures.bytes ∙ ap (λ (s : SheetData). behind s (numbered cs)) c.clear.ensures in
    kept_is cs c.args.sheet.now.room c.requires.room c.put_snapshot.new.sheet put c.is_in_memory.ensures

pub returns-clause-room : goal.returns-clause-room
returns-clause-room c = rw (c.put_snapshot.ensures.bytes, c.clear.ensures)
    (same_room (numbered (snapshot c.args.s.now.state)) c.args.sheet.now.room)

pub returns-clause-proper : goal.returns-clause-proper
returns-clause-proper c =
    let cs = snapshot c.args.s.now.state in
    let room = c.args.sheet.now.room in
    let put : c.put_snapshot.new.sheet ≡ behind (blank room) (numbered cs) =
    c.put_snapshot.ensures.bytes ∙ ap (λ (s : SheetData). behind s (numbered cs)) c.clear.ensures in
    λ keepable. (
      kept_is cs room c.requires.room c.put_snapshot.new.sheet put c.is_in_memory.ensures,
      (
        are_fewer cs room c.requires.room c.put_snapshot.new.sheet put c.is_in_memory.ensures,
        kept_proper cs ((made_snapshot c.args.s.now.state c.requires.made).keepable keepable) c.put_snapshot.ensures.proper,
      ),
    )
