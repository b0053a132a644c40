use Rattle.std.proofs.Common.{◌≡◌, [], length, take, drop}
use Rattle.heat_disk.specs.Events.{log_of, total}
use Rattle.heat_disk.proofs.Replays.{IsAt}
use Rattle.heat_disk.proofs.history.History.longest.Given as goal

abbrev pub invariant-loop-event : goal.invariant-loop-event
invariant-loop-event l = record {
  whole : total l.event-items ≡ length l.initial.rest;
  rest : l.rest ≡ drop (total (take l.event-index l.event-items)) l.initial.rest;
  replayed : IsAt l.half l.start l.fill (log_of (take l.event-index l.event-items) l.initial.rest []) l.seen.items l.longest.items;
}
