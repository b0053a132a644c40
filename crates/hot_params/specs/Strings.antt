-- What values are as strings.
use Rattle.std.specs.Prelude.{ℕ, List, [], ◌∷◌, ◌++◌, Bool, false, Option, Some, None}
use Rattle.heat_value.specs.Data.{Data, null, flag, whole, words, items, fields, Nodes, no_nodes, node}
use Rattle.hot_forms.specs.Checks.{is_among}
use Rattle.hot_params.specs.Conversions.{string_in}

-- the string, where there is one
abbrev pub strings_of : Option (List ℕ) → List (List ℕ)
strings_of None = []
strings_of (Some s) = s ∷ []

-- the strings of those values that have one, in order
abbrev pub strings_among : Nodes → List (List ℕ)
strings_among no_nodes = []
strings_among (node d ns) = strings_of (string_in d) ++ strings_among ns

-- the value is one of these texts
abbrev pub is_one_of : List (List ℕ) → Data → Bool
is_one_of strings null = false
is_one_of strings (flag b) = false
is_one_of strings (whole z) = false
is_one_of strings (words s) = is_among strings s
is_one_of strings (items ns) = false
is_one_of strings (fields ms) = false
