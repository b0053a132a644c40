use Rattle.std.proofs.Common.{◌+◌, ◌-◌, length, arith, refl}
use Rattle.hot_strings.proofs.KeyLemmas.{AreDistinct-item}
use Rattle.hot_strings.proofs.Rises.{AreDistinct-rising}
use Rattle.hot_strings.proofs.keys.are_distinct.Goals as goal

pub returns-then-keys_rise : goal.returns-then-keys_rise
returns-then-keys_rise c = (λ _. AreDistinct-rising c.args.params.now (c.if-keys_rise.ensures.0 refl), λ _. refl)

pub returns-then-not-lacks_key : goal.returns-then-not-lacks_key
returns-then-not-lacks_key c = (
  λ h. cc,
  λ distinct. c.if-not-lacks_key.ensures.1
      (AreDistinct-item c.args.params.now c.loop-i.i (length c.args.params.now - (c.loop-i.i + 1)) c.index-params-i.result (omega arith) c.index-params-i.is (c.loop-i.invariant.0 distinct)),
)
