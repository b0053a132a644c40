-- What a disk over two real files shows: nothing of their content, but its room, and whether a half is lost.
use Rattle.std.specs.Prelude.{◌≡◌, ◌↔◌, ℕ, false, [], Result, IsErr}
use Rattle.heat_disk.specs.declared.half.Half.{Half}
use Rattle.heat_disk.specs.declared.file.FileDisk.{FileDisk}
use Rattle.heat_disk.specs.declared.opened.Opened.{Opened}
use Rattle.heat_disk.specs.declared.opened.Way.TheVariants.{Lost}
use Rattle.heat_disk.specs.Halves.{part, beside, changed}
use Rattle.heat_disk.specs.Memory.{widened}
use Rattle.heat_disk.specs.Shown.{Room, ShownDisk}

-- the room of one file
abbrev pub room_of : Opened → Room
room_of opened = record { end = opened.end; bytes = opened.bytes; calls = opened.calls }

-- the file can't be reached, or a sync of it failed
abbrev pub IsLostFile : Opened → Type 0
IsLostFile opened = opened.way ≡ Lost

-- both files
abbrev pub files_of : FileDisk → Opened × Opened
files_of disk = (disk.first, disk.second)

-- its room alone has a meaning
abbrev pub files_shown : FileDisk → ShownDisk
files_shown disk = record {
  tells = false;
  seen = ([], []);
  may_leave = λ _. Unit {0};
  moment = 0;
  left_since = λ _ _. Unit {0};
  room = (room_of disk.first, room_of disk.second);
}

-- how many of its calls have failed
abbrev pub file_faults : FileDisk → ℕ
file_faults disk = disk.faults

-- the half's file can't be reached, or a sync of it failed
abbrev pub IsLost : Half → FileDisk → Type 0
IsLost half disk = IsLostFile (part half (files_of disk))

-- a call on a lost half fails; no half is lost or found by it, and the room of both stays
pub record Reaches {T E : Type 0} (half : Half) (result : Result T E) (old new : FileDisk) : Type 0 where
  pub fails : IsLost half old → IsErr result
  pub same : files_of new ≡ files_of old

-- A sync that failed loses its half, and no other does: that of a lost one fails. The other half stays as it is, and
-- the room of both.
pub record SyncsFile {T E : Type 0} (half : Half) (result : Result T E) (old new : FileDisk) : Type 0 where
  pub fails : IsLost half old → IsErr result
  pub lost : IsErr result ↔ IsLost half new
  pub other : beside half (files_of new) ≡ beside half (files_of old)
  pub room : (files_shown new).room ≡ (files_shown old).room

-- Room for a half, lost or not: just what was asked for more, and no half is lost or found by it.
pub record Widens (half : Half) (end bytes calls : ℕ) (old new : FileDisk) : Type 0 where
  pub room : (files_shown new).room ≡ changed half (widened end bytes calls) (files_shown old).room
  pub lost : (any : Half) → IsLost any new ↔ IsLost any old
