use Rattle.std.proofs.Common.{◌∙◌, sym, ap}
use Rattle.hot_params.proofs.Trims.{back_stays, back_shorter}
use Rattle.hot_params.specs.Texts.{without_back}
use Rattle.hot_params.proofs.listing.without_back.Goals as goal

pub loop-shorter-preserved : goal.loop-shorter-preserved
loop-shorter-preserved c = (
  c.in-Some.ensures.utf8,
  c.loop-shorter.invariant.1 ∙ (ap without_back c.in-Some.ensures.cases ∙ back_shorter c.in-Some.shorter.now),
)

pub returns : goal.returns
returns c = sym (c.loop-shorter.invariant.1 ∙ back_stays _ c.in_default.ensures.cases)
