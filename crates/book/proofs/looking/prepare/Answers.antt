-- Room for each step, and nothing else has changed.
use Rattle.std.proofs.Common.{arith}
use Rattle.heat_plan.specs.declared.calls.Answered.TheVariants as answer
use Rattle.book.proofs.Calling.{answer_storable}
use Rattle.book.proofs.Keepers.{room_stays, same_then}
use Rattle.book.proofs.looking.prepare.Goals as goal

pub make_room-requires : goal.make_room-requires
make_room-requires g c = (answer_storable _ c.requires.workable c.args.e answer.Gone _
    c.in_ok-outcomes.ensures.made.gone).keepable

pub make_room-requires-2 : goal.make_room-requires-2
make_room-requires-2 g c = (answer_storable _ c.requires.workable c.args.e answer.NotYet _
    c.in_ok-outcomes.ensures.made.not_yet).keepable

pub make_room-requires-3 : goal.make_room-requires-3
make_room-requires-3 g c = (answer_storable _ c.requires.workable c.args.e answer.Failed _
    c.in_ok-outcomes.ensures.made.failed).keepable

pub returns-in_err-make_room-2-clause-shown : goal.returns-in_err-make_room-2-clause-shown
returns-in_err-make_room-2-clause-shown g c = same_then _ _ _ c.make_room.ensures.shown c.make_room-2.ensures.shown

pub returns-in_err-make_room-3-clause-shown : goal.returns-in_err-make_room-3-clause-shown
returns-in_err-make_room-3-clause-shown g c = same_then _ _ _
    (same_then _ _ _ c.make_room.ensures.shown c.make_room-2.ensures.shown) c.make_room-3.ensures.shown

pub returns-clause-shown : goal.returns-clause-shown
returns-clause-shown g c = same_then _ _ _
    (same_then _ _ _ c.make_room.ensures.shown c.make_room-2.ensures.shown) c.make_room-3.ensures.shown

pub returns-clause-room : goal.returns-clause-room
returns-clause-room g c =
    let a2 = c.make_room-2.ensures.keeps in
    let b2 = c.make_room-2.ensures.keeps_pages in
    let a3 = c.make_room-3.ensures.keeps in
    let b3 = c.make_room-3.ensures.keeps_pages in
    record {
      gone = room_stays _ _ _ _ _ _ _
          (λ cs r. c.make_room-3.ensures.keeps_records cs (c.make_room-2.ensures.keeps_records cs r))
          (omega (arith, a2, a3)) (omega (arith, b2, b3)) c.in_ok-make_room.ensures.room;
      not_yet = room_stays _ _ _ _ _ _ _ (λ cs r. c.make_room-3.ensures.keeps_records cs r)
          (omega (arith, a3)) (omega (arith, b3)) c.in_ok-make_room-2.ensures.room;
      failed = c.in_ok-make_room-3.ensures.room;
    }
