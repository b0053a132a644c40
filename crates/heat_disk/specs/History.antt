-- What a half may leave after a crash, from all that was done to it.
use Rattle.std.specs.Prelude.{◌≡◌, ◌⊎◌, ℕ, zero, suc, ◌+◌, ◌<◌, ◌≤◌, min, max, Bool, true, false, not, ◌&&◌, ◌||◌}
use Rattle.std.specs.Prelude.{cond, nat_lt, nat_le, List, [], ◌∷◌, length, take, slice_index, Option, Some, None}
use Rattle.heat_disk.specs.declared.half.Half.{Half}
use Rattle.heat_disk.specs.declared.half.Half.TheVariants.{First, Second}
use Rattle.heat_disk.specs.Halves.{Pair}
use Rattle.heat_disk.specs.Images.{overwritten}
use Rattle.heat_disk.specs.Shown.{Room, ShownDisk}

-- what was done to a half
pub data Step : Type 0 where
  wrote : (at : ℕ) → (bytes : List ℕ) → Step
  cut_to : (len : ℕ) → Step
  synced : Step

-- a step and its half
abbrev pub Call : Type 0
Call = Half × Step

-- What a half is between two syncs: its bytes, those at the last sync, its least and its greatest
-- length since then, and the ranges that were written, by place and size.
pub record Side : Type 0 where
  pub seen : List ℕ
  pub kept : List ℕ
  pub least : ℕ
  pub greatest : ℕ
  pub loose : List (ℕ × ℕ)

-- all of it is on the disk
abbrev pub resting : List ℕ → Side
resting bytes = record { seen = bytes; kept = bytes; least = length bytes; greatest = length bytes; loose = [] }

-- other bytes and other ranges, with their length counted
abbrev pub moved : List ℕ → List (ℕ × ℕ) → Side → Side
moved bytes loose s = record {
  seen = bytes;
  kept = s.kept;
  least = min s.least (length bytes);
  greatest = max s.greatest (length bytes);
  loose = loose;
}

-- the half after a step
abbrev pub after : Step → Side → Side
after (wrote at bytes) s = moved (overwritten at bytes s.seen) ((length (take at s.seen), length bytes) ∷ s.loose) s
after (cut_to len) s = moved (take len s.seen) s.loose s
after synced s = resting s.seen

-- the place is in one of the ranges
abbrev pub is_in : List (ℕ × ℕ) → ℕ → Bool
is_in [] i = false
is_in (range ∷ ranges) i = (nat_le range.0 i && nat_lt i (range.0 + range.1)) || is_in ranges i

-- The byte there may be anything after a crash: it was written since the last sync, or lies past the
-- length of then.
abbrev pub is_loose : Side → ℕ → Bool
is_loose s i = is_in s.loose i || not (nat_lt i (length s.kept))

-- a crash may leave this of the half
pub record MayLeave (s : Side) (image : List ℕ) : Type 0 where
  pub no_shorter : s.least ≤ length image
  pub no_longer : length image ≤ s.greatest
  pub stays : (i : ℕ) → i < length image → is_loose s i ≡ false → slice_index image i ≡ slice_index s.kept i

-- the list of what stands at each place below n
abbrev pub tabulate : ℕ → (ℕ → ℕ) → List ℕ
tabulate zero f = []
tabulate (suc n) f = f 0 ∷ tabulate n (λ i. f (suc i))

-- the longest that a crash may leave, with b where anything may stand
abbrev pub filled : ℕ → Side → List ℕ
filled b s = tabulate s.greatest (λ i. cond (is_loose s i) b (slice_index s.kept i))

-- they are one
abbrev pub is_same : Half → Half → Bool
is_same First First = true
is_same First Second = false
is_same Second First = false
is_same Second Second = true

-- a half that began with these bytes, after calls of which the newest comes first
abbrev pub side : Half → List ℕ → List Call → Side
side half start [] = resting start
side half start (call ∷ earlier) =
    cond (is_same call.0 half) (after call.1 (side half start earlier)) (side half start earlier)

-- both halves
abbrev pub sides : Pair → List Call → Side × Side
sides start calls = (side First start.0 calls, side Second start.1 calls)

-- what a read gives of both
abbrev pub seen_of : Side × Side → Pair
seen_of both = (both.0.seen, both.1.seen)

-- a crash may leave this of both
abbrev pub LeavesPair : Side × Side → Pair → Type 0
LeavesPair both image = MayLeave both.0 image.0 × MayLeave both.1 image.1

-- A crash at some moment from t on might have left this. The moments are counted by calls.
abbrev pub LeftSince : Pair → List Call → ℕ → Pair → Type 0
LeftSince start [] t image = LeavesPair (sides start []) image
LeftSince start (call ∷ earlier) t image =
    LeavesPair (sides start (call ∷ earlier)) image ⊎ (t ≤ length earlier × LeftSince start earlier t image)

-- what a disk shows that began with these bytes and keeps its calls
abbrev pub shown_of : Pair → List Call → Room × Room → ShownDisk
shown_of start calls room = record {
  tells = true;
  seen = seen_of (sides start calls);
  may_leave = LeavesPair (sides start calls);
  moment = length calls;
  left_since = LeftSince start calls;
  room = room;
}

-- what both read as, or the longest with one byte where anything may stand
abbrev pub image_of : Option ℕ → Side × Side → Pair
image_of None both = seen_of both
image_of (Some b) both = (filled b both.0, filled b both.1)
