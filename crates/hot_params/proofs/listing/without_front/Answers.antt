use Rattle.std.proofs.Common.{◌∙◌, sym}
use Rattle.hot_params.proofs.Trims.{front_stays}
use Rattle.hot_params.proofs.listing.without_front.Goals as goal

pub returns : goal.returns
returns c = sym (c.loop-shorter.invariant.1 ∙ front_stays _ c.in_default.ensures.cases)
