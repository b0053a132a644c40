-- How the fields of a disk in memory give it as data.
use Rattle.std.specs.Prelude.{◌≡◌, ◌+◌, ◌≤◌}
use Rattle.heat_disk.specs.declared.half.Half.TheVariants.{First, Second}
use Rattle.heat_disk.specs.declared.memory.MemDisk.TheInside.{Inside}
use Rattle.heat_disk.specs.History.{side}
use Rattle.heat_disk.specs.Memory.{Kept}

abbrev pub kept_of : Inside → Kept
kept_of a = record {
  start = (a.first.start, a.second.start);
  calls = a.history.calls;
  room = (a.first.room, a.second.room);
  fails = a.fails.items;
  numbered = a.numbered;
  faults = a.faults;
}

-- what both halves hold is what their calls made of it, and the list has the room of both
pub record Agrees (a : Inside) : Type 0 where
  pub first : a.first.held ≡ (side First a.first.start a.history.calls).seen
  pub second : a.second.held ≡ (side Second a.second.start a.history.calls).seen
  pub calls : a.first.room.calls + a.second.room.calls ≤ a.history.more_calls
  pub bytes : a.first.room.bytes + a.second.room.bytes ≤ a.history.more_bytes
