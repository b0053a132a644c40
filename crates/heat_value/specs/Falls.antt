-- Each part weighs less than the whole.
use Rattle.std.specs.Prelude.{◌≤◌, max, List, [], ◌∷◌}
use Rattle.std.proofs.Common.{arith}
use denote.Param.Weighed.{most}
use Rattle.heat_value.specs.Meaning.{data_of, nodes_of, members_of, weight, nodes_weight, members_weight}
use Rattle.heat_value.specs.declared.value.Value.{Value}
use Rattle.heat_value.specs.declared.value.Value.TheVariants as value
use Rattle.heat_value.specs.declared.value.Member.{Member}
use Rattle.heat_value.specs.declared.value.Items.TheDeep.{deep-Value, deep-Member}

-- a value nests no deeper than it weighs
pub deep_le-weight : (v : Value) → deep-Value v ≤ weight (data_of v)
deep_le-weight value.Null = omega arith
deep_le-weight (value.Flag b) = omega arith
deep_le-weight (value.Whole z) = omega arith
deep_le-weight (value.Words s) = omega arith
deep_le-weight (value.Items ns) = omega arith
deep_le-weight (value.Fields ms) = omega arith

-- none of a list's values nests deeper than all of them weigh
pub most_le-nodes : (vs : List Value) → max (most deep-Value vs) 0 ≤ nodes_weight (nodes_of vs)
most_le-nodes [] = omega arith
most_le-nodes (v ∷ vs) = omega (arith, most_le-nodes vs, deep_le-weight v)

-- no value of a map's members nests deeper than all of them weigh
pub most_le-members : (es : List Member) → max (most deep-Member es) 0 ≤ members_weight (members_of es)
most_le-members [] = omega arith
most_le-members (e ∷ es) = omega (arith, most_le-members es, deep_le-weight e.value)
