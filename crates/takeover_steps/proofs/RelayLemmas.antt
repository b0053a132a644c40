-- What wears the end of a stopped engine's job out.
use Rattle.std.proofs.Common.{◌≤◌, ◌+◌, ◌^◌, List, ◌∷◌, Some, None, refl, arith}
use Rattle.std.specs.Prelude.{Option, IfSome, option_map}
use Rattle.row_table.specs.declared.row.Row.{Row}
use Rattle.core_state.specs.declared.change.Change.{Change}
use Rattle.core_state.specs.declared.change.Change.TheVariants.{PutRow}
use Rattle.core_state.specs.declared.change.Change.TheVariants as change_to
use Rattle.core_state.specs.declared.numbers.Numbers.{Numbers}
use Rattle.step_relation.specs.Rows.{unlocked}
use Rattle.step_relation.specs.Turns.{IsWorn, key, letter}
use Rattle.step_relation.specs.Writes.{past_letters, unlock}
use Rattle.step_parts.specs.Rooms.{MayRise}

-- one more letter can't be numbered
pub letter_wears : (next : Numbers) (rest : List Change) → ¬ (next.letter + 1 ≤ 2 ^ 62)
    → IsWorn (change_to.Numbers (past_letters next 1) ∷ rest)
letter_wears next rest full = record {
  change = change_to.Numbers (past_letters next 1);
  among = (0, omega arith, refl);
  overflows = letter (past_letters next 1) (grind (arith, full));
}

-- the key of the row that is to be unlocked can't be raised
pub key_wears : {B : Type 0} (f : B → Row) (row : Option B) (first : Change) (rest : List Change)
    → ¬ IfSome row (λ r. MayRise (f r)) → IsWorn (first ∷ unlock (option_map f row) rest)
key_wears f None first rest high = absurd (high tt)
key_wears f (Some r) first rest high = record {
  change = PutRow (unlocked (f r));
  among = (1, omega arith, refl);
  overflows = key (unlocked (f r)) (grind (arith, high));
}
