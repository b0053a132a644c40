use Rattle.std.proofs.Common.{◌≡◌, ◌+◌, length, take, drop, sym, ◌∙◌, ap, arith, length-drop, refl}
use Rattle.heat_disk.specs.declared.half.Half.TheVariants.{First}
use Rattle.heat_disk.specs.declared.history.Act.TheVariants.{Write}
use Rattle.heat_disk.specs.declared.history.Event.{Event}
use Rattle.heat_disk.specs.Events.{total}
use Rattle.heat_disk.proofs.Fillings.{filled-resting}
use Rattle.heat_disk.proofs.Replays.{fits_next, rest_at, next_on, next_off}
use Rattle.heat_disk.proofs.history.History.longest.Goals as goal
use Rattle.heat_disk.proofs.history.History.longest.Goals.{then-is+in_ok-replay, else-is}

-- what an index past the end would give
none : Event
none = record { half = First; act = Write 0 0 }

pub loop-event-init : goal.loop-event-init
loop-event-init c = record {
  whole = ap total c.deref-event-items.ensures.value ∙ c.self.invariant ∙ sym (ap length c.deref-rest.ensures.value);
  rest = refl;
  replayed = record {
    seen_is = c.in_ok-seen.ensures.items;
    longest_is = c.in_ok-longest.ensures.items ∙ sym (filled-resting c.args.fill c.args.start.now);
  };
}

pub split_at-requires : goal.split_at-requires
unfolding none
split_at-requires c =
    let so_far = c.loop-event.invariant in
    omega (arith, fits_next c.deref-event-items.result.now c.loop-event.event-index none c.loop-event-test.true, c.size.ensures, so_far.whole, ap length so_far.rest, length-drop (total (take c.loop-event.event-index c.deref-event-items.result.now)) c.deref-rest.result.now)

pub loop-event-preserved : goal.loop-event-preserved
unfolding none
loop-event-preserved c =
    let so_far = c.loop-event.invariant in
    let events = c.deref-event-items.result.now in
    let store = c.deref-rest.result.now in
    let i = c.loop-event.event-index in
    let less = c.loop-event-test.true in
    let rest : c.split_at.result.1.now ≡ drop (total (take (i + 1) events)) store =
    rest_at events i none less store c.loop-event.rest.now c.split_at.result.1.now c.size.result so_far.rest c.size.ensures c.split_at.ensures.back in
    elim c.if-is.branch [
      | then-is+in_ok-replay w ↦ record {
        whole = so_far.whole;
        rest = ap (λ r. r.now) w.rest-is ∙ rest;
        replayed = next_on events i none less c.args.half c.args.start.now c.args.fill store c.loop-event.rest.now c.split_at.result.0.now c.size.result
            c.loop-event.seen.items c.loop-event.longest.items c.if-is.seen.items c.if-is.longest.items
            so_far.rest c.size.ensures c.split_at.ensures.front (sym c.is.ensures ∙ w.if-is.true) so_far.replayed
            (ap (λ v. v.items) w.seen-is ∙ w.in_ok-replay.ensures.seen) (ap (λ v. v.items) w.longest-is ∙ w.in_ok-replay.ensures.longest);
      }
      | else-is w ↦ record {
        whole = so_far.whole;
        rest = ap (λ r. r.now) w.rest-is ∙ rest;
        replayed = rw (w.seen-is, w.longest-is) (next_off events i none less c.args.half c.args.start.now c.args.fill store c.loop-event.seen.items c.loop-event.longest.items (sym c.is.ensures ∙ w.if-is.false) so_far.replayed);
      }
    ]
