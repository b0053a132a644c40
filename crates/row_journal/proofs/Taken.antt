-- An opening, from call to call: what a crash leaves, and what the mending is given.
use Rattle.std.proofs.Common.{◌≡◌, inl, inr, sym, ◌∙◌, ap, subst}
use Rattle.heat_disk.specs.Calls.{ReadsAlike}
use Rattle.heat_disk.specs.Halves.{Pair, part}
use Rattle.heat_disk.specs.Shown.{ShownDisk, SameContent, IsLawful, IsDurable, LeavesOnly}
use Rattle.heat_disk.proofs.Moments.{stays_same, joined}
use Rattle.row_journal.specs.Images.{ImageData, IsImage}
use Rattle.row_journal.proofs.Found.{image_same}
use Rattle.row_journal.specs.declared.looking.Found.{Found}
use Rattle.row_journal.specs.Ends.{end_of}
use Rattle.row_journal.specs.Found.{EndsBy, IsFound}
use Rattle.row_journal.specs.Mends.{IsSettled, SettlesAt, Mended, Recovering}
use Rattle.row_journal.specs.Openings.{StaysUnsynced}
use Rattle.row_journal.specs.Places.{place_of}
use Rattle.row_journal.specs.Unsynced.{IsLastUnsynced, all_synced, record_unsynced, gate_unsynced, start_unsynced, filling_unsynced, snapshot_unsynced}
use Rattle.row_journal.proofs.Runs.{SoFar, begins, next}

pub as_before : (old read roomed settled : ShownDisk) → ReadsAlike old read → SameContent read roomed → ReadsAlike roomed settled → settled.seen ≡ old.seen
as_before old read roomed settled reads same syncs = syncs.seen ∙ same.seen ∙ reads.seen

module _ (old : ShownDisk) (law : IsLawful old) (image : ImageData) where
  at_old : SoFar old old (Recovering old image)
  at_old = begins old (Recovering old image) law (λ c now. inl now)

  module _ (read : ShownDisk) (reads : ReadsAlike old read) where
    pub after_read : SoFar old read (Recovering old image)
    after_read = next old old read (Recovering old image) at_old reads.time (λ c now. inl (reads.crash c now))

    module _ (roomed : ShownDisk) (same : SameContent read roomed) where
      pub after_room : SoFar old roomed (Recovering old image)
      after_room = next old read roomed (Recovering old image) after_read (stays_same read roomed same) (λ c now. after_read.here c ((same.crash c).0 now))

      module _ (settled : ShownDisk) (syncs : ReadsAlike roomed settled) where
        pub after_sync : SoFar old settled (Recovering old image)
        after_sync = next old roomed settled (Recovering old image) after_room syncs.time (λ c now. after_room.here c (syncs.crash c now))

        same_bytes : settled.seen ≡ old.seen
        same_bytes = as_before old read roomed settled reads same syncs

        pub after_mend : (new : ShownDisk) → LeavesOnly settled new (Mended image settled.seen) → LeavesOnly old new (Recovering old image)
        after_mend new mends = joined old settled new (Recovering old image) (Mended image settled.seen) after_sync.leaves mends
            (λ c mended. inr (subst (λ (p : Pair). Mended image p c) same_bytes mended))

-- what was found still stands, and is on the disk
pub still : (halves : Pair) (found : Found) (disk : ShownDisk) (it : IsFound halves found) → disk.seen ≡ halves → IsDurable disk → IsSettled it.image found.ending disk
still halves found disk it same durable = record {
  is_image = subst (λ (p : Pair). IsImage p it.image) (sym same) it.is_image;
  ends = subst (λ (p : Pair). EndsBy it.image.half (part it.image.half p) (end_of it.image) found.ending) (sym same) it.ending;
  durable = durable;
}

pub settles : (halves : Pair) (found : Found) (disk : ShownDisk) (it : IsFound halves found) → disk.seen ≡ halves → IsDurable disk → SettlesAt found.place found.ending disk
settles halves found disk it same durable = record { image = it.image; numbers = it.place; settled = still halves found disk it same durable }

-- and so of any image of theirs, since there is no other
pub given : (halves : Pair) (found : Found) (disk : ShownDisk) → IsFound halves found → disk.seen ≡ halves → IsDurable disk → (image : ImageData) → IsImage halves image
    → (found.place ≡ place_of image) × IsSettled image found.ending disk
given halves found disk it same durable image is_image =
    let one : it.image ≡ image = image_same halves it.image image it.is_image is_image in
    (it.place ∙ ap place_of one, subst (λ (i : ImageData). IsSettled i found.ending disk) one (still halves found disk it same durable))

-- where a crash leaves no more, no more is unsynced
fewer_unsynced : (old new : ShownDisk) → new.seen ≡ old.seen → ((c : Pair) → new.may_leave c → old.may_leave c) → IsLastUnsynced old → IsLastUnsynced new
fewer_unsynced old new same fewer (all_synced durable) = all_synced (λ c now. durable c (fewer c now) ∙ sym same)
fewer_unsynced old new same fewer (record_unsynced before image n rest each) = record_unsynced before image n rest (λ c now. each c (fewer c now))
fewer_unsynced old new same fewer (gate_unsynced before image gate payload is next each) = gate_unsynced before image gate payload is next (λ c now. each c (fewer c now))
fewer_unsynced old new same fewer (start_unsynced before image is first few each) = start_unsynced before image is first few (λ c now. each c (fewer c now))
fewer_unsynced old new same fewer (filling_unsynced before image rest each) = filling_unsynced before image rest (λ c now. each c (fewer c now))
fewer_unsynced old new same fewer (snapshot_unsynced before image payload rest sized small each) =
    snapshot_unsynced before image payload rest sized small (λ c now. each c (fewer c now))

pub read_unsynced : (old read : ShownDisk) → ReadsAlike old read → StaysUnsynced old read
read_unsynced old read reads image is_image tidy last = fewer_unsynced old read reads.seen reads.crash last

pub room_unsynced : (old read roomed : ShownDisk) → ReadsAlike old read → SameContent read roomed → StaysUnsynced old roomed
room_unsynced old read roomed reads same image is_image tidy last =
    fewer_unsynced old roomed (same.seen ∙ reads.seen) (λ c now. reads.crash c ((same.crash c).0 now)) last

pub sync_unsynced : (old read roomed settled : ShownDisk) → ReadsAlike old read → SameContent read roomed → ReadsAlike roomed settled → StaysUnsynced old settled
sync_unsynced old read roomed settled reads same syncs image is_image tidy last =
    fewer_unsynced old settled (as_before old read roomed settled reads same syncs) (λ c now. reads.crash c ((same.crash c).0 (syncs.crash c now))) last
