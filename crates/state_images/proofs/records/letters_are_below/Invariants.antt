use Rattle.std.proofs.Common.{◌<◌, ℕ}
use Rattle.std.specs.Prelude.{slice_index_or}
use Rattle.core_state.specs.declared.Letter.{Letter}
use Rattle.step_relation.specs.Numbered.{LetterBelow}
use Rattle.state_images.proofs.records.letters_are_below.Given as goal

abbrev pub invariant-loop-letter : goal.invariant-loop-letter
invariant-loop-letter l = (k : ℕ) (d : Letter) → k < l.letter-index → LetterBelow l.next.letter l.next.trav (slice_index_or l.letters k d)
