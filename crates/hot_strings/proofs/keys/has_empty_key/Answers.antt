use Rattle.std.proofs.Common.{◌≢◌, ◌<◌, [], length, arith}
use Rattle.hot_strings.proofs.KeyLemmas.{All-step, All-end, not_empty}
use Rattle.hot_strings.proofs.keys.has_empty_key.Goals as goal

pub loop-param-preserved : goal.loop-param-preserved
loop-param-preserved c =
    let below : c.loop-param.param-index < length c.args.params.now = omega arith in
    All-step (λ p. p.0 ≢ []) c.args.params.now c.loop-param.param-index c.param-item.result below c.param-item.is
    (not_empty c.as_str.result.now c.param-item.result.0 c.as_str.ensures.value c.if-is_empty.ensures) c.loop-param.invariant

pub returns : goal.returns
returns c = All-end (λ p. p.0 ≢ []) c.args.params.now c.loop-param.param-index (omega arith) c.loop-param.invariant
