-- What the members of a map so far show.
use Rattle.std.specs.Prelude.{ℕ, List, [], ◌∷◌}
use Rattle.heat_value.specs.Data.{Members, no_members, member}
use Rattle.heat_value.specs.Meaning.{data_of}
use Rattle.heat_value.specs.declared.value.Value.{Value}

-- keys with their values, as a map
abbrev pub members_in : List (List ℕ × Value) → Members
members_in [] = no_members
members_in (e ∷ es) = member e.0 (data_of e.1) (members_in es)
