use Rattle.std.proofs.Common.{◌∙◌, ap}
use Rattle.heat_value.specs.Data.{node_last}
use Rattle.heat_value.specs.Meaning.{data_of}
use Rattle.hot_eval.proofs.Joins.{next_copy, all_copies}
use Rattle.hot_eval.proofs.Places.{refs_at, refs_end}
use Rattle.hot_eval.proofs.lists.copies_of.Goals as goal

pub loop-value-preserved : goal.loop-value-preserved
loop-value-preserved c =
    next_copy _ _ _ _ _ (data_of c.value-item.result.now)
    (refs_at c.args.values.now c.loop-value.value-index c.value-item.result _ c.loop-value-test.true c.value-item.is)
    (c.in_ok-push.ensures.ok ∙ ap (λ v. node_last c.loop-value.items (data_of v)) c.in_ok-copy.ensures)
    c.loop-value.invariant

pub returns : goal.returns
returns c = all_copies _ _ _ (refs_end c.args.values.now _ c.loop-value-test.false) c.loop-value.invariant
