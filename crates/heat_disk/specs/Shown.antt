-- What a disk shows, and how a call leads from one moment to the next.
use Rattle.std.specs.Prelude.{◌≡◌, ◌⊎◌, ◌↔◌, ℕ, ◌+◌, ◌≤◌, ◌<◌, Bool}
use Rattle.heat_disk.specs.declared.half.Half.{Half}
use Rattle.heat_disk.specs.Halves.{Pair, part, beside}

-- the room of a half: so many writes, cuts and syncs, of so many bytes, none past this end
pub record Room : Type 0 where
  pub end : ℕ
  pub bytes : ℕ
  pub calls : ℕ

-- What a disk shows. Where it doesn't tell its content, the room alone has a meaning.
pub record ShownDisk : Type 1 where
  -- it tells its content, and what a crash makes of it
  pub tells : Bool
  -- what a read gives
  pub seen : Pair
  -- what a crash at this moment may leave
  pub may_leave : Pair → Type 0
  -- the moment, as a number that never falls
  pub moment : ℕ
  -- what a crash at some moment from that one on might have left, inside a call or between two
  pub left_since : ℕ → Pair → Type 0
  -- what may still be done without memory
  pub room : Room × Room

-- a write of n bytes at this place is within the room
pub record HasRoom (room : Room) (at n : ℕ) : Type 0 where
  pub call : 0 < room.calls
  pub bytes : n ≤ room.bytes
  pub end : at + n ≤ room.end

-- at least the rest of the room is left after so many calls and bytes
pub record IsLeft (calls bytes : ℕ) (old new : Room) : Type 0 where
  pub calls_left : old.calls ≤ new.calls + calls
  pub bytes_left : old.bytes ≤ new.bytes + bytes
  pub no_nearer : old.end ≤ new.end

-- the room is at least what was asked for
pub record IsAtLeast (end bytes calls : ℕ) (room : Room) : Type 0 where
  pub far : end ≤ room.end
  pub wide : bytes ≤ room.bytes
  pub often : calls ≤ room.calls

-- a call spends so much of one half's room and none of the other's
pub record Spends (half : Half) (calls bytes : ℕ) (old new : ShownDisk) : Type 0 where
  pub here : IsLeft calls bytes (part half old.room) (part half new.room)
  pub other : IsLeft 0 0 (beside half old.room) (beside half new.room)

-- a crash since t might have left what it might have left before, or what it may leave now
pub record Elapses (old new : ShownDisk) : Type 0 where
  pub later : old.moment ≤ new.moment
  pub nothing_else : (t : ℕ) (c : Pair) → t ≤ old.moment → new.left_since t c → old.left_since t c ⊎ new.may_leave c
  pub keeps : (t : ℕ) (c : Pair) → t ≤ old.moment → old.left_since t c → new.left_since t c

-- all but the room is as before
pub record SameContent (old new : ShownDisk) : Type 0 where
  pub seen : new.seen ≡ old.seen
  pub crash : (c : Pair) → new.may_leave c ↔ old.may_leave c
  pub moment : new.moment ≡ old.moment
  pub since : (t : ℕ) (c : Pair) → new.left_since t c ↔ old.left_since t c

-- what holds of a disk that tells its content, at every moment
pub record IsLawful (disk : ShownDisk) : Type 0 where
  -- what it reads as is one of its images
  pub reads : disk.may_leave disk.seen
  -- now is one of the moments since an earlier one
  pub counts_now : (t : ℕ) (c : Pair) → t ≤ disk.moment → disk.may_leave c → disk.left_since t c
  -- since now there is no other
  pub only_now : (c : Pair) → disk.left_since disk.moment c → disk.may_leave c
  -- since an earlier moment there are at least as many
  pub widens : (t u : ℕ) (c : Pair) → t ≤ u → disk.left_since u c → disk.left_since t c

-- a crash now leaves both halves as they read
abbrev pub IsDurable : ShownDisk → Type 0
IsDurable disk = (c : Pair) → disk.may_leave c → c ≡ disk.seen

-- A crash at any moment since old leaves an image that has P.
pub record LeavesOnly (old new : ShownDisk) (P : Pair → Type 0) : Type 0 where
  pub later : old.moment ≤ new.moment
  pub each : (c : Pair) → new.left_since old.moment c → P c
  -- for a run that began earlier
  pub before : (t : ℕ) (c : Pair) → t ≤ old.moment → new.left_since t c → old.left_since t c ⊎ P c
