-- Where the next record goes behind a call, as the place before says it, on any disk.
use Rattle.std.specs.Prelude.{◌+◌, ◌==◌, if◌then◌else◌, ℕ}
use Rattle.row_journal.specs.declared.version.Version.TheVariants.{Two}
use Rattle.row_journal.specs.declared.place.Place.{Place}
use Rattle.row_journal.specs.Mends.{other}

-- behind one record more, of n bytes, in version 2
abbrev pub next_place : ℕ → Place → Place
next_place n place = record place {
  count = place.count + 1;
  first_end = if place.count == 0 then place.end + n + 17 else place.first_end;
  end = place.end + n + 17;
}

-- behind the one record, of n bytes, of a snapshot on the other half
abbrev pub snapshot_place : ℕ → Place → Place
snapshot_place n place = record {
  half = other place.half;
  version = Two;
  epoch = place.epoch + 1;
  start = 16;
  count = 1;
  first_end = n + 33;
  end = n + 33;
}
