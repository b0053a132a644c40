use Rattle.hot_params.proofs.Lists.{next_text, all_texts}
use Rattle.hot_params.proofs.listing.texts_of.Goals as goal

pub loop-value-preserved : goal.loop-value-preserved
loop-value-preserved c =
    rw c.in_ok-push.ensures.ok (next_text _ _ _ c.value-item.result _ _ c.loop-value-test.true c.value-item.is
    c.in_ok-text_of.ensures c.loop-value.invariant)

pub returns : goal.returns
returns c = all_texts _ _ _ _ c.loop-value-test.false c.loop-value.invariant
