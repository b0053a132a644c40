-- The list of calls, as it is kept: events, and one store with the bytes of all writes.
use Rattle.std.specs.Prelude.{ℕ, ◌+◌, List, [], ◌∷◌, take, drop}
use Rattle.heat_disk.specs.declared.history.Act.{Act}
use Rattle.heat_disk.specs.declared.history.Act.TheVariants.{Write, Cut, Sync}
use Rattle.heat_disk.specs.declared.history.Event.{Event}
use Rattle.heat_disk.specs.History.{Step, wrote, cut_to, synced, Call}

-- how many bytes of the store are the event's
abbrev pub size_of : Act → ℕ
size_of (Write at len) = len
size_of (Cut len) = 0
size_of Sync = 0

-- its step, whose bytes are in front of these
abbrev pub step_of : Act → List ℕ → Step
step_of (Write at len) rest = wrote at (take len rest)
step_of (Cut len) rest = cut_to len
step_of Sync rest = synced

-- the calls of these events, the newest first, in front of those from before
abbrev pub log_of : List Event → List ℕ → List Call → List Call
log_of [] store before = before
log_of (event ∷ events) store before =
    log_of events (drop (size_of event.act) store) ((event.half, step_of event.act store) ∷ before)

-- how many bytes they have in all
abbrev pub total : List Event → ℕ
total [] = 0
total (event ∷ events) = size_of event.act + total events

-- a list of calls, and how many more calls and bytes it takes without memory
pub record Told : Type 0 where
  pub calls : List Call
  pub more_calls : ℕ
  pub more_bytes : ℕ
