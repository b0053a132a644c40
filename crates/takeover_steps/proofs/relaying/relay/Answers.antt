use Rattle.std.proofs.Common.{inr, refl}
use Rattle.std.proofs.lemmas.Bool.{both_ways}
use Rattle.takeover_steps.proofs.RelayLemmas.{key_wears, letter_wears}
use Rattle.takeover_steps.proofs.relaying.relay.Goals as goal

pub returns-then-not-has_room-clause-cause : goal.returns-then-not-has_room-clause-cause
returns-then-not-has_room-clause-cause c = inr (
  refl,
  letter_wears c.args.s.now.state.next _
      (λ room. both_ways c.has_room.result c.if-not-has_room.true (c.has_room.ensures.1 (rw c.next.ensures room))),
)

pub returns-then-not-may_all_rise-clause-cause : goal.returns-then-not-may_all_rise-clause-cause
returns-then-not-may_all_rise-clause-cause c = inr (
  refl,
  key_wears (λ r. r.now) c.args.row _ _
      (λ may. both_ways c.may_all_rise.result c.if-not-may_all_rise.true (c.may_all_rise.ensures.1 may)),
)
