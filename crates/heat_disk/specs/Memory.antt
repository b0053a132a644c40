-- A disk in memory, as data: what it began with, its calls, and which of them fail.
use Rattle.std.specs.Prelude.{◌≡◌, ℕ, ◌+◌, ◌-◌, ◌≤◌, ◌^◌, min, max, Bool, cond, ◌&&◌}
use Rattle.std.specs.Prelude.{◌==◌, nat_lt, List, [], ◌∷◌, length, Result, is_err}
use Rattle.std.specs.List.{list_any}
use Rattle.heat_disk.specs.declared.half.Half.{Half}
use Rattle.heat_disk.specs.Halves.{Pair, changed}
use Rattle.heat_disk.specs.Shown.{Room, ShownDisk}
use Rattle.heat_disk.specs.History.{Step, wrote, cut_to, synced, Call, shown_of}

-- one half: what it began with, what it holds, and its room
pub record HeldHalf : Type 0 where
  pub start : List ℕ
  pub held : List ℕ
  pub room : Room

-- the whole disk
pub record Kept : Type 0 where
  -- what both halves began with
  pub start : Pair
  -- the writes, cuts and syncs since then, the newest first
  pub calls : List Call
  pub room : Room × Room
  -- the numbers of the calls that fail
  pub fails : List ℕ
  -- how many calls were made, reads among them
  pub numbered : ℕ
  pub faults : ℕ

-- no room at all
abbrev pub no_room : Room
no_room = record { end = 0; bytes = 0; calls = 0 }

-- the room after one call that writes n bytes
abbrev pub less : ℕ → Room → Room
less n room = record { end = room.end; bytes = room.bytes - n; calls = room.calls - 1 }

-- the room made at least what is asked for
abbrev pub widened : ℕ → ℕ → ℕ → Room → Room
widened end bytes calls room =
    record { end = max room.end end; bytes = max room.bytes bytes; calls = max room.calls calls }

-- a disk that holds these bytes, all on the disk, before its first call
abbrev pub fresh : Pair → List ℕ → Kept
fresh start fails =
    record { start = start; calls = []; room = (no_room, no_room); fails = fails; numbered = 0; faults = 0 }

-- what it shows
abbrev pub shown_by : Kept → ShownDisk
shown_by disk = shown_of disk.start disk.calls disk.room

-- The next call is one of those that fail. Numbers end at the last of 64 bits.
abbrev pub fails_next : Kept → Bool
fails_next disk = nat_lt disk.numbered (2 ^ 64 - 1) && list_any (λ n. n == (disk.numbered + 1)) disk.fails

-- one call more is numbered, and counted where it fails
abbrev pub counted : Kept → Kept
counted disk = record {
  start = disk.start;
  calls = disk.calls;
  room = disk.room;
  fails = disk.fails;
  numbered = min (disk.numbered + 1) (2 ^ 64 - 1);
  faults = cond (fails_next disk) (min (disk.faults + 1) (2 ^ 64 - 1)) disk.faults;
}

-- how many bytes a step writes
abbrev pub written_by : Step → ℕ
written_by (wrote at bytes) = length bytes
written_by (cut_to len) = 0
written_by synced = 0

-- a step of this half is done, and noted
abbrev pub done : Half → Step → Kept → Kept
done half step disk = record {
  start = disk.start;
  calls = (half, step) ∷ disk.calls;
  room = changed half (less (written_by step)) disk.room;
  fails = disk.fails;
  numbered = disk.numbered;
  faults = disk.faults;
}

-- the room of this half made at least what is asked for
abbrev pub wider : Half → ℕ → ℕ → ℕ → Kept → Kept
wider half end bytes calls disk = record {
  start = disk.start;
  calls = disk.calls;
  room = changed half (widened end bytes calls) disk.room;
  fails = disk.fails;
  numbered = disk.numbered;
  faults = disk.faults;
}

-- A numbered call: it fails where its number is listed, and changes nothing but the counts. Else it
-- does its work.
pub record IsNumbered {T E : Type 0} (work : Kept → Kept) (result : Result T E) (old new : Kept) : Type 0 where
  pub fails : is_err result ≡ fails_next old
  pub after : new ≡ cond (fails_next old) (counted old) (work (counted old))

-- no image that a crash of the first may leave has a longer half
pub record IsLongest (disk : ShownDisk) (crashed : Kept) : Type 0 where
  pub first : (c : Pair) → disk.may_leave c → length c.0 ≤ length (shown_by crashed).seen.0
  pub second : (c : Pair) → disk.may_leave c → length c.1 ≤ length (shown_by crashed).seen.1
