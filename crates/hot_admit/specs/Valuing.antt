-- How the values of conditions are found, one after another.
use Rattle.std.specs.Prelude.{◌≡◌, ℕ, List, Bool, Option, Some, None, length, slice_get}
use Rattle.heat_plan.specs.Named.{condition_value}
use Rattle.heat_plan.specs.declared.conditions.Condition.{Condition}
use Rattle.heat_value.specs.Data.{Data, Members, keys_of, lookup}
use Rattle.eval_words.specs.Conditions.{flag_of, values_of, valued}
use Rattle.eval_words.specs.SoFar.{named_values}

-- each that has a value in the one list has it in the other
pub record IsWithin (known more : List Condition) : Type 0 where
  pub kept : (name : List ℕ) (b : Bool) → condition_value known name ≡ Some b → condition_value more name ≡ Some b

-- there is a value or none for each condition, and each value is the condition's
pub record AreFound (params conds : Members) (values : List (Option Bool)) : Type 0 where
  pub count : length values ≡ length (keys_of conds)
  pub right : IsWithin (named_values conds values) (values_of params conds)

-- what had a value has it still
abbrev pub Grows : Members → List (Option Bool) → List (Option Bool) → Type 0
Grows conds old new = IsWithin (named_values conds old) (named_values conds new)

-- a condition that had no value has one
pub record FindsOne (conds : Members) (old new : List (Option Bool)) : Type 0 where
  pub name : List ℕ
  pub value : Bool
  pub before : condition_value (named_values conds old) name ≡ None
  pub after : condition_value (named_values conds new) name ≡ Some value

-- the flag that the condition at the place gives where the old ones are known is its value in the new ones
pub record IsFoundAt (params conds : Members) (old new : List (Option Bool)) (place : ℕ) : Type 0 where
  pub value : (name : List ℕ) (d : Data) (b : Bool) → slice_get (keys_of conds) place ≡ Some name
      → lookup name conds ≡ Some d → flag_of params (named_values conds old) d ≡ Some b
      → condition_value (named_values conds new) name ≡ Some b

-- each flag that a condition gives where the old ones are known is its value in the new ones
pub record AddsRound (params conds : Members) (old new : List (Option Bool)) : Type 0 where
  pub grows : Grows conds old new
  pub all : IsWithin (valued params (named_values conds old) conds) (named_values conds new)
