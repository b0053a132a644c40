-- The engines, the compaction, the memory, and the record.
use Rattle.std.proofs.Common.{List, inl, refl, subst, sym, ℕ, ◌∙◌}
use Rattle.heat_value.specs.Counts.{Rose}
use Rattle.core_state.specs.Applies.{AllApply}
use Rattle.core_state.specs.declared.change.Change.{Change}
use Rattle.step_relation.specs.Images.{AreKeepable}
use Rattle.book.proofs.Keepers.{itself, keeps_after, may_append, same_ready}
use Rattle.book.proofs.Startings.{starts_lacking, starts_unkept, starts_unmade, starts_unrenewed, starts_well}
use Rattle.book.proofs.Stepping.{kept_slice, ready_slice}
use Rattle.book.proofs.opening.begin_with.Goals as goal

pub returns-in-Err : goal.returns-in-Err
returns-in-Err g c = starts_unmade _ c.args.workers _ _ (g.met.K.Keeper.lawful _) _ c.requires.stands c.in-Err.why
    c.in-Err.ensures.cause

pub returns-in-Err-renew : goal.returns-in-Err-renew
returns-in-Err-renew g c = starts_unrenewed _ c.args.workers _ _ _ _ c.renew.result (c.renew.ensures c.args.workers)
    c.in-Err-renew.why c.in-Err-renew.is

pub returns-in-Err-start_of : goal.returns-in-Err-start_of
returns-in-Err-start_of g c = starts_lacking _ c.args.workers _ _ _ _ c.renew.result (c.renew.ensures c.args.workers) _ _ _
    (g.met.K.Keeper.lawful _) c.in-Ok-renew.is (itself _) refl c.in-Err-start_of.why c.in-Err-start_of.ensures.cause

pub reserve-requires : goal.reserve-requires
reserve-requires g c = subst AreKeepable (sym (c.as_slice.ensures ∙ c.in-Ok.ensures.made))
    (c.requires.storable c.args.workers).keepable

pub returns-then-is_err : goal.returns-then-is_err
returns-then-is_err g c = starts_lacking _ c.args.workers _ _ _ _ c.renew.result (c.renew.ensures c.args.workers) _ _ _
    (g.met.K.Keeper.lawful _) c.in-Ok-renew.is c.reserve.ensures.same c.reserve.ensures.faults _ (inl refl)

pub keep-requires-clause-ready : goal.keep-requires-clause-ready
keep-requires-clause-ready g c = (
  c.args.image.state,
  same_ready _ _ c.reserve.ensures.same _ ((c.renew.ensures c.args.workers).ready c.in-Ok-renew.is),
)

pub keep-requires-clause-keepable : goal.keep-requires-clause-keepable
keep-requires-clause-keepable g c = subst AreKeepable (sym (c.as_slice-2.ensures ∙ c.in-Ok.ensures.made))
    (c.requires.storable c.args.workers).keepable

pub keep-requires-clause-applies : goal.keep-requires-clause-applies
keep-requires-clause-applies g c s stands = subst (λ (cs : List Change). AllApply cs s)
    (sym (c.as_slice-2.ensures ∙ c.in-Ok.ensures.made))
    (may_append _ _ _
    (same_ready _ _ c.reserve.ensures.same _ ((c.renew.ensures c.args.workers).ready c.in-Ok-renew.is))
    (c.requires.storable c.args.workers) s stands)

pub returns-in-Ok-keep : goal.returns-in-Ok-keep
returns-in-Ok-keep g c =
    let ready = same_ready _ _ c.reserve.ensures.same c.args.image.state
    ((c.renew.ensures c.args.workers).ready c.in-Ok-renew.is) in
    starts_well _ c.args.workers _ _ _ _ c.renew.result (c.renew.ensures c.args.workers) _ _ _ c.in-Ok.ensures.below
    (keeps_after _ _ c.reserve.ensures.same _ _ _ _ _ _ c.reserve.ensures.faults
    (kept_slice _ _ _ _ _ _ _ (c.as_slice-2.ensures ∙ c.in-Ok.ensures.made) (c.keep.ensures.keeps _ ready)))
    (ready_slice _ _ _ _ (c.as_slice-2.ensures ∙ c.in-Ok.ensures.made) (c.in-Ok-keep.ensures.ready _ ready))
    c.in-Ok-start_of.ensures.start

pub returns : goal.returns
returns g c =
    let ready = same_ready _ _ c.reserve.ensures.same c.args.image.state
    ((c.renew.ensures c.args.workers).ready c.in-Ok-renew.is) in
    starts_unkept _ c.args.workers _ _ _ _ c.renew.result (c.renew.ensures c.args.workers) _ _ c.in-Ok.ensures.below
    (keeps_after _ _ c.reserve.ensures.same _ _ _ _ _ _ c.reserve.ensures.faults
    (kept_slice _ _ _ _ _ _ _ (c.as_slice-2.ensures ∙ c.in-Ok.ensures.made) (c.keep.ensures.keeps _ ready)))
    (subst (λ (n : ℕ). Rose n (g.K.Keeper.faults c.keep.new.keeper)) c.reserve.ensures.faults c.in-Err-keep.ensures.fault)
