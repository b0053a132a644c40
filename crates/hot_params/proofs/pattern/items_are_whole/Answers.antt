use Rattle.std.proofs.Common.{◌∙◌, refl}
use Rattle.heat_value.specs.Meaning.{data_of}
use Rattle.regex.specs.Strings.{matcher_pattern}
use Rattle.hot_params.proofs.Wholes.{passes, fails, not_true, whole_next, whole_not, whole_end}
use Rattle.hot_params.specs.Rules.{text_in, texts_among}
use Rattle.hot_params.proofs.pattern.items_are_whole.Goals as goal

pub returns-then-not-is_whole : goal.returns-then-not-is_whole
returns-then-not-is_whole c =
    not_true (whole_not (matcher_pattern c.args.matcher.now) (texts_among c.args.items.now)
    c.as_slice-value-items.result.now c.loop-value.value-index c.value-item.result
    c.loop-value-test.true c.value-item.is c.loop-value.invariant.1
    (fails (matcher_pattern c.args.matcher.now) (matcher_pattern c.loop-value.matcher) c.is_whole.result
    c.text_in.result.now (text_in (data_of c.value-item.result)) c.is_whole.ensures.whole c.if-not-is_whole.true
    c.loop-value.invariant.0 c.text_in.ensures))

pub loop-value-preserved : goal.loop-value-preserved
loop-value-preserved c = (
  c.is_whole.ensures.same ∙ c.loop-value.invariant.0,
  whole_next (matcher_pattern c.args.matcher.now) (texts_among c.args.items.now) c.as_slice-value-items.result.now
      c.loop-value.value-index c.value-item.result c.loop-value-test.true c.value-item.is c.loop-value.invariant.1
      (passes (matcher_pattern c.args.matcher.now) (matcher_pattern c.loop-value.matcher) c.is_whole.result
      c.text_in.result.now (text_in (data_of c.value-item.result)) c.is_whole.ensures.whole c.if-not-is_whole.false
      c.loop-value.invariant.0 c.text_in.ensures),
)

pub returns : goal.returns
returns c = (
  λ e. whole_end (matcher_pattern c.args.matcher.now) (texts_among c.args.items.now) c.as_slice-value-items.result.now
      c.loop-value.value-index c.loop-value-test.false c.loop-value.invariant.1,
  λ all. refl,
)
