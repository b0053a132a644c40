use Rattle.std.proofs.Common.{◌∙◌, sym}
use Rattle.hot_forms.proofs.Stops.{texts_stop}
use Rattle.hot_forms.proofs.shape.are_texts.Goals as goal

pub returns-then-not-is_text : goal.returns-then-not-is_text
returns-then-not-is_text c =
    sym (c.loop-value.invariant ∙ texts_stop _ _ c.value-item.result c.loop-value-test.true c.value-item.is
    (sym c.is_text.ensures ∙ c.if-not-is_text.true))
