use Rattle.std.proofs.Common.{◌≡◌, length}
use Rattle.std.specs.Str.{IsUtf8}
use Rattle.hot_params.specs.Texts.{without_back}
use Rattle.hot_params.proofs.listing.without_back.Given as goal

-- what is left has the same rest
abbrev pub invariant-loop-shorter : goal.invariant-loop-shorter
invariant-loop-shorter l = IsUtf8 l.rest × (without_back l.text ≡ without_back l.rest)

abbrev pub decreases-loop-shorter : goal.decreases-loop-shorter
decreases-loop-shorter l = length l.rest
