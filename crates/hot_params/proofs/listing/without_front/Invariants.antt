use Rattle.std.proofs.Common.{◌≡◌, length}
use Rattle.std.specs.Str.{IsUtf8}
use Rattle.hot_params.specs.Texts.{without_front}
use Rattle.hot_params.proofs.listing.without_front.Given as goal

-- what is left has the same rest
abbrev pub invariant-loop-shorter : goal.invariant-loop-shorter
invariant-loop-shorter l = IsUtf8 l.rest × (without_front l.text ≡ without_front l.rest)

abbrev pub decreases-loop-shorter : goal.decreases-loop-shorter
decreases-loop-shorter l = length l.rest
