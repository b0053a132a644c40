-- The data that a value stands for.
use Rattle.std.specs.Prelude.{List, [], ◌∷◌, ℕ, ◌+◌}
use Rattle.heat_value.specs.Data.{Data, null, flag, whole, words, items, fields, Nodes}
use Rattle.heat_value.specs.Data.{no_nodes, node, Members, no_members, member}
use Rattle.heat_value.specs.declared.value.Value.{Value}
use Rattle.heat_value.specs.declared.value.Value.TheVariants as value
use Rattle.heat_value.specs.declared.value.Member.{Member}

-- the data of one value
abbrev pub data_of : Value → Data
data_of value.Null = null
data_of (value.Flag b) = flag b
data_of (value.Whole z) = whole z
data_of (value.Words s) = words s
data_of (value.Items ns) = items ns
data_of (value.Fields ms) = fields ms

-- the data of a list's values, in order
abbrev pub nodes_of : List Value → Nodes
nodes_of [] = no_nodes
nodes_of (v ∷ vs) = node (data_of v) (nodes_of vs)

-- the data of a map's members, in order
abbrev pub members_of : List Member → Members
members_of [] = no_members
members_of (e ∷ es) = member e.key (data_of e.value) (members_of es)

-- how many parts it has
abbrev mutual
  pub weight : Data → ℕ
  weight null = 1
  weight (flag b) = 1
  weight (whole z) = 1
  weight (words s) = 1
  weight (items ns) = nodes_weight ns + 1
  weight (fields ms) = members_weight ms + 1

  -- the parts of a list's values, and one more for each
  pub nodes_weight : Nodes → ℕ
  nodes_weight no_nodes = 0
  nodes_weight (node d ns) = weight d + nodes_weight ns + 1

  -- the parts of a map's values, and one more for each
  pub members_weight : Members → ℕ
  members_weight no_members = 0
  members_weight (member k d ms) = weight d + members_weight ms + 1
