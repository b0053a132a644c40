-- What of a disk may be unsynced when a journal is opened, and what a crash inside that opening then leaves.
use Rattle.std.specs.Prelude.{◌≡◌, ◌≢◌, ◌+◌, ◌<◌, ◌≤◌, ◌^◌, ℕ, List, [], ◌∷◌, ◌++◌, length, take, get_or}
use Rattle.heat_disk.specs.declared.half.Half.{Half}
use Rattle.heat_disk.specs.declared.half.Half.TheVariants.{First}
use Rattle.heat_disk.specs.Halves.{Pair, part}
use Rattle.heat_disk.specs.Images.{Torn, StepsAt}
use Rattle.heat_disk.specs.Shown.{ShownDisk, IsDurable}
use Rattle.row_journal.specs.declared.version.Version.TheVariants.{Two}
use Rattle.row_journal.specs.Forms.{journal_mark, body, IsSized}
use Rattle.row_journal.specs.Images.{ImageData, IsImage}
use Rattle.row_journal.specs.Ends.{end_of, behind, with_next, IsClosed, HasNext, Leaves}
use Rattle.row_journal.specs.Mends.{other}
use Rattle.row_journal.specs.Snapshots.{fresh_snapshot, IsUnopened, IsStagedSomehow}

-- a byte isn't synced: some crash leaves another at its place than is read
pub record IsUnsynced (half : Half) (place : ℕ) (disk : ShownDisk) : Type 0 where
  pub halves : Pair
  pub left : disk.may_leave halves
  pub differs : get_or (part half halves) place 0 ≢ get_or (part half disk.seen) place 0

-- an append or a snapshot may begin on these halves: they have the image, which ends at a gate 00
pub record IsAtRest (image : ImageData) (halves : Pair) : Type 0 where
  pub is_image : IsImage halves image
  pub marked : image.start ≡ 8 → take 8 (part image.half halves) ≡ journal_mark image.version
  pub closed : IsClosed (behind halves image)

-- At most the writes of the last append, snapshot or opening are unsynced: whatever a crash leaves came of halves that
-- were on the disk, by such writes, torn.
pub data IsLastUnsynced (disk : ShownDisk) : Type 0 where
  -- none
  all_synced : IsDurable disk → IsLastUnsynced disk
  -- an append: a record behind the closed gate
  record_unsynced : (before : Pair) (image : ImageData) (n : ℕ) → IsAtRest image before
      → ((c : Pair) → disk.may_leave c → StepsAt image.half (Torn (end_of image + 1) n) before c)
      → IsLastUnsynced disk
  -- an append or an opening: the gate in front of a whole record
  gate_unsynced : (before : Pair) (image : ImageData) (gate : ℕ) (payload : List ℕ) → IsImage before image
      → HasNext image gate payload (behind before image)
      → ((c : Pair) → disk.may_leave c → StepsAt image.half (Torn (end_of image) 1) before c)
      → IsLastUnsynced disk
  -- an opening: an empty journal in place of a First of at most 9 bytes
  start_unsynced : (before : Pair) (image : ImageData) → IsImage before image → image.half ≡ First → length before.0 ≤ 9
      → ((c : Pair) → disk.may_leave c → (length c.0 ≤ 9) × (c.1 ≡ before.1)) → IsLastUnsynced disk
  -- a snapshot: the half that isn't live, while it is closed and filled
  filling_unsynced : (before : Pair) (image : ImageData) → IsAtRest image before
      → ((c : Pair) → disk.may_leave c → IsUnopened (other image.half) before c) → IsLastUnsynced disk
  -- a snapshot: the gate in front of it
  snapshot_unsynced : (before : Pair) (image : ImageData) (payload : List ℕ) → IsAtRest image before → IsSized payload
      → image.epoch + 1 < 2 ^ 64
      → ((c : Pair) → disk.may_leave c
      → IsStagedSomehow (other image.half) (image.epoch + 1) (body Two 1 payload ++ 0 ∷ []) before c)
      → IsLastUnsynced disk

-- What a crash inside an opening leaves of a disk that read as this image, where at most the writes of the last append,
-- snapshot or opening were unsynced. In each case the halves are tidy.
pub data OpeningLeaves (disk : ShownDisk) (image : ImageData) (halves : Pair) : Type 0 where
  -- the image that was read
  as_read : Leaves image halves → OpeningLeaves disk image halves
  -- that without its last record, only where that record's gate isn't synced
  without_last : (earlier : ImageData) (payload : List ℕ) → image ≡ with_next earlier payload
      → IsUnsynced image.half (end_of earlier) disk → Leaves earlier halves → OpeningLeaves disk image halves
  -- that with the one record behind its last gate
  with_behind : (gate : ℕ) (payload : List ℕ) → HasNext image gate payload (behind disk.seen image)
      → Leaves (with_next image payload) halves → OpeningLeaves disk image halves
  -- only where a snapshot's opening gate isn't synced, the image on that snapshot's other side: the snapshot was not read
  turned : (payload : List ℕ) → IsUnsynced (other image.half) 16 disk
      → IsStagedSomehow (other image.half) (image.epoch + 1) (body Two 1 payload ++ 0 ∷ []) disk.seen disk.seen
      → Leaves (fresh_snapshot image payload) halves → OpeningLeaves disk image halves
  -- or it was
  turned_back : (earlier : ImageData) (payload : List ℕ) → image ≡ fresh_snapshot earlier payload
      → IsUnsynced image.half 16 disk → Leaves earlier halves → OpeningLeaves disk image halves
