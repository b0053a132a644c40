-- The answer was stored, or the call alone is told.
use Rattle.std.proofs.Common.{refl, subst, sym, ◌∙◌}
use Rattle.core_state.specs.State.{StateData}
use Rattle.book.specs.Keeping.{IsStorable}
use Rattle.book.proofs.Calling.{answer_storable, tells_some, unworn}
use Rattle.book.proofs.Learned.{learned_alone, learned_stored}
use Rattle.book.proofs.LostAlone.{lost_turn}
use Rattle.book.proofs.poll.learn.Goals as goal

pub make_answered-requires-clause-storable : goal.make_answered-requires-clause-storable
make_answered-requires-clause-storable g c =
    subst (λ (s : StateData). IsStorable s c.in-Ok.made.changes) (sym c.learned.ensures.state)
    (answer_storable _ c.requires.workable c.args.e c.args.answer _ c.in-Ok.ensures.made)

pub make_answered-requires-clause-tells : goal.make_answered-requires-clause-tells
make_answered-requires-clause-tells g c = tells_some _ c.args.e c.args.answer _ c.in-Ok.ensures.made

pub returns-in-Ok : goal.returns-in-Ok
returns-in-Ok g c =
    let k = c.requires.calls in
    learned_stored _ _ c.args.e c.args.answer k _ _ _ _ _ _ c.learned.ensures.state c.learned.ensures.entries
    c.learned.ensures.shown c.learned.ensures.faults (c.requires.stays k) c.in-Ok.made c.in-Ok.ensures.made _ _ _ _ _
    c.make_answered.ensures

pub returns-in-Err : goal.returns-in-Err
returns-in-Err g c =
    let k = c.requires.calls in
    let made = c.args.failed in
    let turn = c.requires.failed in
    learned_alone _ _ c.args.e c.args.answer k _ _ _ _ _ _ c.learned.ensures.state c.learned.ensures.entries
    c.learned.ensures.shown c.learned.ensures.faults _ (g.met.K.Keeper.lawful _) c.requires.ready c.requires.size
    (lost_turn _ c.args.e k c.args.answer (c.requires.stays k) c.requires.size made.changes made.entries
    turn.turn (unworn _ c.args.e _ made turn)) _
    (c.push.ensures.items ∙ rw (c.requires.token k) refl)
