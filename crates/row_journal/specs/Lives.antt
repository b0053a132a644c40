-- The life of a journal: openings, appends, snapshots and crashes in any order, and what is never lost in it.
use Rattle.std.specs.Prelude.{◌≡◌, ◌⊎◌, ℕ, Bool, true, false, List, [], ◌∷◌, Option, Some, None}
use Rattle.heat_disk.specs.Halves.{Pair}
use Rattle.heat_disk.specs.Shown.{ShownDisk, SameContent, IsDurable, LeavesOnly}
use Rattle.heat_disk.specs.Calls.{ReadsAlike}
use Rattle.row_journal.specs.Images.{ImageData}
use Rattle.row_journal.specs.declared.place.Place.{Place}
use Rattle.row_journal.specs.Ends.{with_next, Leaves, LeavesEither}
use Rattle.row_journal.specs.Openings.{HasOpened, Survives}
use Rattle.row_journal.specs.Ready.{IsReady}
use Rattle.row_journal.specs.Snapshots.{fresh_snapshot, LeavesSnapshot}

-- what an append was given, or a snapshot
pub data Given : Type 0 where
  record_of : (payload : List ℕ) → Given
  snapshot_of : (payload : List ℕ) → Given

-- the image with it
abbrev pub put : Given → ImageData → ImageData
put (record_of payload) image = with_next image payload
put (snapshot_of payload) image = fresh_snapshot image payload

-- what a crash inside that append or snapshot leaves
abbrev pub LeavesGiven : Given → ImageData → Pair → Type 0
LeavesGiven (record_of payload) image = LeavesEither image payload
LeavesGiven (snapshot_of payload) image = LeavesSnapshot image payload

-- an append or a snapshot, what it was given, and whether it was acknowledged
pub record Asked : Type 0 where
  pub given : Given
  pub acknowledged : Bool

-- the image behind a call: with what it was given; one that wasn't acknowledged may have left it as it was
abbrev pub Becomes : Asked → ImageData → ImageData → Type 0
Becomes call old new = (new ≡ put call.given old) ⊎ ((call.acknowledged ≡ false) × (new ≡ old))

-- the first image with what these calls were given, in their order; the newest stands in front
abbrev pub IsLater : ImageData → List Asked → ImageData → Type 0
IsLater first [] image = image ≡ first
IsLater first (call ∷ earlier) image = (mid : ImageData) × IsLater first earlier mid × Becomes call mid image

-- what is known of a journal: the calls so far, the image acknowledged last, and what the last call was given, where
-- it wasn't acknowledged and no opening has said since what became of it
pub record Known : Type 0 where
  pub calls : List Asked
  pub image : ImageData
  pub doubt : Option Given

-- before the first call
abbrev pub opening : ImageData → Known
opening image = record { calls = []; image = image; doubt = None }

-- an append or a snapshot was acknowledged
abbrev pub acknowledges : Given → Known → Known
acknowledges given k = record {
  calls = record { given = given; acknowledged = true } ∷ k.calls;
  image = put given k.image;
  doubt = None;
}

-- one failed, or a crash broke it off
abbrev pub tries : Given → Known → Known
tries given k = record {
  calls = record { given = given; acknowledged = false } ∷ k.calls;
  image = k.image;
  doubt = Some given;
}

-- an opening found this image
abbrev pub finds : ImageData → Known → Known
finds image k = record { calls = k.calls; image = image; doubt = None }

-- One call between two disks, as its contract says it: what is known before it, behind it, and behind a crash inside
-- it. A call that ends in `_not` failed.
pub data Call (old new : ShownDisk) (k next broken : Known) : Type 0 where
  opens : (place : Place) (payloads : List (List ℕ)) → Survives old new
      → (opened : HasOpened old new place payloads) → next ≡ finds opened.image k → broken ≡ k
      → Call old new k next broken
  opens_not : Survives old new → next ≡ k → broken ≡ k → Call old new k next broken
  gives : (given : Given) → IsReady k.image old → LeavesOnly old new (LeavesGiven given k.image)
      → IsReady (put given k.image) new → next ≡ acknowledges given k → broken ≡ tries given k
      → Call old new k next broken
  gives_not : (given : Given) → IsReady k.image old → LeavesOnly old new (LeavesGiven given k.image)
      → next ≡ tries given k → broken ≡ tries given k → Call old new k next broken
  -- a look, and an opening that wrote nothing
  reads : ReadsAlike old new → next ≡ k → broken ≡ k → Call old new k next broken
  -- more room
  reserves : SameContent old new → next ≡ k → broken ≡ k → Call old new k next broken

module _ {D : Type 0} (shown : D → ShownDisk) where
  -- From a journal that stands at the first image: what is known of it, and the disk. After a crash the disk is found
  -- as the crash left it.
  pub data Life (first : ImageData) : Known → D → Type 0 where
    begins : (k : Known) (disk : D) → k ≡ opening first → IsReady first (shown disk) → Life first k disk
    goes_on : (k next broken : Known) (old new : D) → Life first k old
        → Call (shown old) (shown new) k next broken → Life first next new
    crashes_inside : (k next broken : Known) (old new found : D) → Life first k old
        → Call (shown old) (shown new) k next broken → (shown new).left_since (shown old).moment (shown found).seen
        → IsDurable (shown found) → Life first broken found
    crashes_between : (k : Known) (old found : D) → Life first k old
        → (shown old).may_leave (shown found).seen → IsDurable (shown found) → Life first k found

-- the image acknowledged last, or that with what the call in doubt was given
abbrev pub IsKept : Known → ImageData → Type 0
IsKept k now = (now ≡ k.image) ⊎ ((given : Given) × (k.doubt ≡ Some given) × (now ≡ put given k.image))

-- the halves are tidy, with an image that is kept; it came of the first by what the calls were given
pub record LeavesLater (first : ImageData) (k : Known) (halves : Pair) : Type 0 where
  pub now : ImageData
  pub kept : IsKept k now
  pub later : IsLater first k.calls now
  pub leaves : Leaves now halves

-- What was acknowledged last came of the first image by what the calls were given, and so did each image that a crash
-- now leaves, which has all that was acknowledged. So an opening takes it up, and no acknowledged record is lost but
-- into a snapshot.
pub record HasSurvived (first : ImageData) (k : Known) (disk : ShownDisk) : Type 0 where
  pub later : IsLater first k.calls k.image
  pub each : (halves : Pair) → disk.may_leave halves → LeavesLater first k halves
