-- Room, then the keeper, then the state and the history.
use Rattle.std.proofs.Common.{List, ap, subst, sym, ◌∙◌}
use Rattle.std.specs.Prelude.{[], ◌≢◌}
use Rattle.core_state.specs.Changes.{applied}
use Rattle.core_state.specs.declared.change.Change.{Change}
use Rattle.step_relation.specs.Images.{AreKeepable}
use Rattle.book.proofs.Keepers.{same_ready}
use Rattle.book.proofs.Stepping.{as_done, as_lacking, as_refused, as_unkept, kept_slice, on_err, on_ok, ready_slice}
use Rattle.book.proofs.Stepping.{storable_of}
use Rattle.book.proofs.making.make_step.Goals as goal

pub returns-in-Err : goal.returns-in-Err
returns-in-Err g c = as_refused _ _ _ _ _ _ (g.met.K.Keeper.lawful _) c.requires.ready c.in-Err.refusal
    c.in-Err.is c.requires.honest

pub returns-then-is_err : goal.returns-then-is_err
returns-then-is_err g c = as_lacking _ _ _ _ _ _ (g.met.K.Keeper.lawful _) c.requires.ready _ _ _ _
    c.make_room.ensures.state c.make_room.ensures.entries c.make_room.ensures.shown c.make_room.ensures.faults

pub keep-requires-clause-keepable : goal.keep-requires-clause-keepable
keep-requires-clause-keepable g c = subst AreKeepable (sym c.as_slice.ensures)
    (storable_of _ _ c.in-Ok.made c.in-Ok.is c.requires.storable).keepable

pub returns-then-is_err-2 : goal.returns-then-is_err-2
returns-then-is_err-2 g c = as_unkept _ _ _ _ _ _ _ _ _ _ _ c.in-Ok.made c.in-Ok.is c.make_room.ensures.shown
    c.make_room.ensures.faults
    (kept_slice _ _ _ _ _ _ _ c.as_slice.ensures
    (c.keep.ensures.keeps _ (same_ready _ _ c.make_room.ensures.shown _ c.requires.ready)))
    (subst (λ (cs : List Change). cs ≢ []) c.as_slice.ensures
    (on_err c.keep.result _ _ c.is_err-2.ensures.value c.if-is_err-2.true c.keep.ensures.tried))
    c.make_room.ensures.state c.make_room.ensures.entries
    (on_err c.keep.result _ _ c.is_err-2.ensures.value c.if-is_err-2.true c.keep.ensures.fault)

pub returns : goal.returns
returns g c = as_done _ _ _ _ _ _ _ _ _ _ _ c.in-Ok.made c.in-Ok.is c.make_room.ensures.shown
    c.make_room.ensures.faults
    (kept_slice _ _ _ _ _ _ _ c.as_slice.ensures
    (c.keep.ensures.keeps _ (same_ready _ _ c.make_room.ensures.shown _ c.requires.ready)))
    (c.write.ensures.state ∙ ap (applied c.in-Ok.made.changes) c.make_room.ensures.state)
    (rw (← c.make_room.ensures.entries) c.write.ensures.entries)
    (ready_slice _ _ _ _ c.as_slice.ensures
    (on_ok c.keep.result _ _ c.is_err-2.ensures.value c.if-is_err-2.false c.keep.ensures.ready _
    (same_ready _ _ c.make_room.ensures.shown _ c.requires.ready)))
