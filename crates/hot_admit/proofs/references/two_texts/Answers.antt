use Rattle.std.proofs.Common.{◌≡◌, ◌<◌, ◌≤◌, List, [], ◌∷◌, None, length, refl, arith}
use Rattle.heat_value.specs.Meaning.{nodes_of}
use Rattle.heat_value.specs.declared.value.Value.{Value}
use Rattle.hot_admit.specs.References.{two_texts}
use Rattle.hot_functions.proofs.Lengths.{no_values, two_values}
use Rattle.hot_admit.proofs.references.two_texts.Goals as goal

one_text : (vs : List Value) → 1 ≤ length vs → length vs < 2 → None ≡ two_texts (nodes_of vs)
one_text [] above below = absurd (omega (arith, above))
one_text (v ∷ []) above below = refl
one_text (v ∷ w ∷ vs) above below = absurd (omega (arith, below))

pub returns-in-empty : goal.returns-in-empty
returns-in-empty c = rw (no_values c.args.values.now c.in-empty.len_below) refl

pub returns-in-len1 : goal.returns-in-len1
returns-in-len1 c = one_text c.args.values.now c.in-len1.len_at_least c.in-len1.len_below

pub returns-in-len2-up : goal.returns-in-len2-up
returns-in-len2-up c =
    rw (two_values c.args.values.now _ _ c.first-item.is c.second-item.is c.in-len2-up.len_at_least)
    (rw (← c.text_in.ensures, ← c.text_in-in-len2-up.ensures) c.both_texts.ensures)
