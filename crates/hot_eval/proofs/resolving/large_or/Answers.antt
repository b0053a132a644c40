use Rattle.std.proofs.Common.{◌∙◌, ap, sym}
use Rattle.heat_value.specs.Data.{Members}
use Rattle.eval_words.specs.Outcomes.{Gives}
use Rattle.hot_eval.proofs.Made.{large_is, small_is}
use Rattle.hot_eval.proofs.resolving.large_or.Goals as goal

pub returns-then-not-is_result : goal.returns-then-not-is_result
returns-then-not-is_result c sum =
    rw c.here.ensures
    (large_is c.is_result.result c.args.made sum c.is_result.ensures c.if-not-is_result.true)

pub returns : goal.returns
returns c sum = (
  sum,
  small_is c.is_result.result c.args.made sum c.is_result.ensures c.if-not-is_result.false
      ∙ ap (λ (ms : Members). Gives ms sum) (sym c.in-Some.ensures.1),
)
