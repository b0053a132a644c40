-- H22 and H24 of one condition, one resource, one output, in the values that are evaluated, by their keys in byte
-- order.
use Rattle.std.specs.Prelude.{ℕ, List, [], ◌∷◌, Option, Some, None, codes}
use Rattle.heat_value.specs.Data.{Data, null, flag, whole, words, items, fields, Members, no_members, lookup}
use Rattle.heat_value.specs.declared.path.Step.TheVariants.{Key}
use Rattle.hot_forms.specs.Checks.{under, first_of}
use Rattle.hot_forms.specs.Shapes.{members_in}
use Rattle.hot_forms.specs.declared.flaw.Flaw.{Flaw}
use Rattle.hot_functions.specs.Walk.{value_flaw, members_flaw}
use Rattle.hot_functions.specs.declared.place.Place.{Place}
use Rattle.hot_functions.specs.declared.place.Place.TheVariants as place

-- the members of an object that stands there; nothing has none
abbrev pub members_there : Option Data → Members
members_there None = no_members
members_there (Some d) = members_in d

-- what stands there, read so
abbrev pub value_there : Members → Members → Place → Option Data → Option Flaw
value_there params conds p None = None
value_there params conds p (Some d) = value_flaw params conds p d

-- what stands under a key, read so
abbrev pub value_under : Members → Members → Place → List ℕ → Members → Option Flaw
value_under params conds p k ms = under (Key k) (value_there params conds p (lookup k ms))

-- an entry of `conditions` is a condition
abbrev pub condition_functions : Members → Members → Data → Option Flaw
condition_functions params conds d = value_flaw params conds place.Condition d

-- the property map itself is never a function
abbrev pub property_functions : Members → Members → Members → Option Flaw
property_functions params conds ms = under (Key (codes "properties"))
    (members_flaw params conds place.Open (members_there (lookup (codes "properties") ms)))

-- a resource's `condition`, then its properties
abbrev pub resource_functions : Members → Members → Data → Option Flaw
resource_functions params conds d = first_of (
    value_under params conds place.Condition (codes "condition") (members_in d)
    ∷ property_functions params conds (members_in d) ∷ [])

-- an output's `condition`, then its value
abbrev pub output_functions : Members → Members → Data → Option Flaw
output_functions params conds d = first_of (
    value_under params conds place.Condition (codes "condition") (members_in d)
    ∷ value_under params conds place.Open (codes "value") (members_in d) ∷ [])
