-- What the constraints of a parameter ask.
use Rattle.std.specs.Prelude.{ℕ, List, [], ◌∷◌, Option, Some, None, map}
use Rattle.heat_value.specs.Data.{Data, Nodes, no_nodes, node, Members, no_members, member}
use Rattle.heat_value.specs.Meaning.{data_of}
use Rattle.hot_forms.specs.Constraints.{rule_of}
use Rattle.hot_forms.specs.Shapes.{members_in}
use Rattle.hot_forms.specs.declared.rule.Rule.{Rule}
use Rattle.hot_tree.specs.declared.constraint.Constraint.{Constraint}

-- the rule and its argument
abbrev pub asked_of : Constraint → Rule × Data
asked_of c = (c.rule, data_of c.argument)

abbrev pub asked_by : List Constraint → List (Rule × Data)
asked_by cs = map asked_of cs

-- the key, where it names a rule, with its argument; else what is found behind it
abbrev pub with_key : Option Rule → Data → Option (Rule × Data) → Option (Rule × Data)
with_key None d rest = rest
with_key (Some r) d rest = Some (r, d)

-- what an entry asks: by its first key that names a rule
abbrev pub asked_in : Members → Option (Rule × Data)
asked_in no_members = None
asked_in (member k d ms) = with_key (rule_of k) d (asked_in ms)

abbrev pub with_asked : Option (Rule × Data) → List (Rule × Data) → List (Rule × Data)
with_asked None rest = rest
with_asked (Some a) rest = a ∷ rest

-- what the entries of a list ask, in order
abbrev pub asked_among : Nodes → List (Rule × Data)
asked_among no_nodes = []
asked_among (node d ns) = with_asked (asked_in (members_in d)) (asked_among ns)
