use Rattle.std.proofs.Common.{◌≡◌, ◌+◌, List, ℕ, length}
use Rattle.std.specs.Str.{IsUtf8}
use Rattle.hot_strings.proofs.Passed.{LeadsTo}
use Rattle.hot_strings.proofs.cutting.piece_at.Given as goal

-- so many pieces were passed
abbrev pub invariant-loop-piece : goal.invariant-loop-piece
invariant-loop-piece l = IsUtf8 l.rest × ((done : List (List ℕ)) × (length done + l.left ≡ l.at) × LeadsTo l.delimiter l.text done l.rest)

abbrev pub decreases-loop-piece : goal.decreases-loop-piece
decreases-loop-piece l = length l.rest
