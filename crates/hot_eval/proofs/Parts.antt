-- What the length of a list says of its parts.
use Rattle.std.proofs.Common.{◌≡◌, ◌<◌, ◌≤◌, List, [], ◌∷◌, None, length, refl, arith}
use Rattle.heat_value.specs.Meaning.{nodes_of}
use Rattle.heat_value.specs.declared.value.Value.{Value}
use Rattle.eval_words.specs.Sorts.{two_of}

pub two_of-one : (vs : List Value) → length vs < 2 → None ≡ two_of (nodes_of vs)
two_of-one [] below = refl
two_of-one (v ∷ []) below = refl
two_of-one (v ∷ w ∷ vs) below = absurd (omega (arith, below))

pub two_of-more : (vs : List Value) → 3 ≤ length vs → None ≡ two_of (nodes_of vs)
two_of-more [] above = absurd (omega (arith, above))
two_of-more (u ∷ []) above = absurd (omega (arith, above))
two_of-more (u ∷ v ∷ []) above = absurd (omega (arith, above))
two_of-more (u ∷ v ∷ w ∷ vs) above = refl
