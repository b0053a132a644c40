-- The values of conditions by their places, as far as they have any.
use Rattle.std.specs.Prelude.{ℕ, List, [], ◌∷◌, Bool, Option, Some, None, option_and_then, slice_get}
use Rattle.heat_plan.specs.declared.conditions.Condition.{Condition}
use Rattle.heat_value.specs.Data.{Members, no_members, member}

-- the condition with its value, before these; or these alone where it has none
abbrev pub with_value : List ℕ → Option Bool → List Condition → List Condition
with_value name None rest = rest
with_value name (Some b) rest = record { name = name; value = b } ∷ rest

-- those that have a value, where these are the values by the places of the conditions
abbrev pub named_values : Members → List (Option Bool) → List Condition
named_values no_members values = []
named_values (member k d ms) [] = []
named_values (member k d ms) (value ∷ values) = with_value k value (named_values ms values)

-- the value at a place, if there is one
abbrev pub value_at : List (Option Bool) → ℕ → Option Bool
value_at values place = option_and_then (λ o. o) (slice_get values place)
