use Rattle.std.proofs.Common.{◌≡◌, length, map}
use Rattle.std.specs.Str.{IsUtf8}
use Rattle.hot_params.specs.Conversions.{nodes_with}
use Rattle.hot_params.specs.Texts.{pieces, trimmed}
use Rattle.hot_params.proofs.Lists.{joined_nodes}
use Rattle.hot_params.proofs.listing.pieces_in.Given as goal

-- the items so far and the pieces that are left are all
abbrev pub invariant-loop-piece : goal.invariant-loop-piece
invariant-loop-piece l =
    IsUtf8 l.rest
    × (joined_nodes l.items (nodes_with (map trimmed (pieces l.rest))) ≡ nodes_with (map trimmed (pieces l.text)))

abbrev pub decreases-loop-piece : goal.decreases-loop-piece
decreases-loop-piece l = length l.rest
