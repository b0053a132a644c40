use Rattle.std.proofs.Common.{◌≡◌, ◌++◌, ℕ, List, length}
use Rattle.std.specs.Str.{IsUtf8}
use Rattle.hot_strings.specs.Answers.{with_values}
use Rattle.hot_strings.specs.Pieces.{Piece, replaced}
use Rattle.hot_strings.proofs.PieceLemmas.{LeadsTo}
use Rattle.hot_strings.proofs.replacing.pass.Given as goal

-- the draft has the pieces that were passed, and the whole result is that and what stands in place of the rest, with which the template ends
abbrev pub invariant-loop-rest : goal.invariant-loop-rest
invariant-loop-rest l = IsUtf8 l.rest × (l.draft.limit ≡ l.limit) × ((done : List Piece) × (l.draft.text ≡ replaced done) × LeadsTo l.params l.template done l.rest)
    × (with_values l.params l.template ≡ l.draft.text ++ with_values l.params l.rest) × ((front : List ℕ) × (l.template ≡ front ++ l.rest))

abbrev pub decreases-loop-rest : goal.decreases-loop-rest
decreases-loop-rest l = length l.rest
