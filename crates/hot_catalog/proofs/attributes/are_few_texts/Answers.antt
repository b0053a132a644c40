-- Where more than 64 stand so far, more than 64 stand at the end.
use Rattle.hot_catalog.proofs.NamesPut.{next_put, still_few, too_many}
use Rattle.hot_catalog.proofs.attributes.are_few_texts.Goals as goal

pub returns-then-as_slice-gt-MOST_ATTRIBUTES : goal.returns-then-as_slice-gt-MOST_ATTRIBUTES
returns-then-as_slice-gt-MOST_ATTRIBUTES c =
    too_many c.as_slice-value-items.result.now c.loop-value.value-index c.value-item.result c.loop-value.names
    c.put_text.new.names _ c.as_slice.result.now c.loop-value-test.true c.value-item.is c.in_ok-put_text.ensures
    c.loop-value.invariant.0 c.as_slice.ensures.members c.if-as_slice-gt-MOST_ATTRIBUTES.true

pub loop-value-preserved : goal.loop-value-preserved
loop-value-preserved c = (
  next_put c.as_slice-value-items.result.now c.loop-value.value-index c.value-item.result c.loop-value.names
      c.put_text.new.names _ c.as_slice.result.now c.loop-value-test.true c.value-item.is c.in_ok-put_text.ensures
      c.loop-value.invariant.0 c.as_slice.ensures.members,
  still_few c.as_slice-value-items.result.now c.loop-value.value-index c.value-item.result c.loop-value.names
      c.put_text.new.names _ c.as_slice.result.now c.loop-value-test.true c.value-item.is c.in_ok-put_text.ensures
      c.loop-value.invariant.0 c.as_slice.ensures.members c.if-as_slice-gt-MOST_ATTRIBUTES.false,
)
