-- Each turn adds the value of one condition.
use Rattle.std.proofs.Common.{◌∙◌, Some, sym, ap, arith, length, ◌++◌, ◌∷◌, []}
use Rattle.heat_plan.specs.declared.conditions.Condition.{Condition}
use Rattle.heat_value.specs.Meaning.{members_of}
use Rattle.eval_words.specs.Conditions.{values_of}
use Rattle.hot_admit.proofs.Found.{values_from, values_next, values_stop, flag_read, flags_count}
use Rattle.hot_admit.proofs.condition_values.values_in.Goals as goal

pub loop-place-init : goal.loop-place-init
loop-place-init c = rw c.in_ok-known.ensures (values_from c.args.params.now c.args.conds.now c.requires.rising)

pub index-requires : goal.index-requires
index-requires c =
    omega (
      arith,
      ap length c.in_ok-values.ensures,
      flags_count c.args.params.now (values_of c.args.params.now (members_of c.args.conds.now)) c.args.conds.now,
      c.in_ok-values.values.ok.0,
      c.loop-place-test.true,
    )

pub returns-in-None-clause-fault : goal.returns-in-None-clause-fault
returns-in-None-clause-fault c =
    values_stop c.args.params.now _ c.args.conds.now c.loop-place.place c.index-conds-place.result c.loop-place.known
    c.loop-place.invariant c.loop-place-test.true c.index-conds-place.is
    (flag_read c.args.params.now _ c.args.conds.now c.loop-place.place c.index-conds-place.result c.index.result.now
    c.in_ok-values.values.items c.loop-place-test.true c.index-conds-place.is c.in_ok-values.ensures c.index.ensures
    ∙ c.in-None.is)
    ∙ ap Some (sym c.in_ok-condition_path-in-None.ensures)

pub loop-place-preserved : goal.loop-place-preserved
loop-place-preserved c =
    values_next c.args.params.now _ c.args.conds.now c.loop-place.place c.index-conds-place.result c.in-Some.value
    c.loop-place.known c.push.new.self c.loop-place.invariant c.loop-place-test.true c.index-conds-place.is
    (flag_read c.args.params.now _ c.args.conds.now c.loop-place.place c.index-conds-place.result c.index.result.now
    c.in_ok-values.values.items c.loop-place-test.true c.index-conds-place.is c.in_ok-values.ensures c.index.ensures
    ∙ c.in-Some.is)
    (c.in_ok-push-in-Some.ensures.ok
    ∙ ap (λ (x : Condition). c.loop-place.known ++ x ∷ []) c.in_ok-named-in-Some.ensures)
