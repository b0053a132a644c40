use Rattle.std.proofs.Common.{◌≡◌, List, ℕ, length}
use Rattle.std.specs.Str.{IsUtf8}
use Rattle.hot_strings.specs.Split.{texts}
use Rattle.hot_strings.proofs.Passed.{LeadsTo}
use Rattle.hot_strings.proofs.splitting.all_pieces.Given as goal

-- the listing has the pieces that were passed
abbrev pub invariant-loop-piece : goal.invariant-loop-piece
invariant-loop-piece l = IsUtf8 l.rest × ((done : List (List ℕ)) × (l.pieces ≡ texts done) × LeadsTo l.delimiter l.text done l.rest)

abbrev pub decreases-loop-piece : goal.decreases-loop-piece
decreases-loop-piece l = length l.rest
