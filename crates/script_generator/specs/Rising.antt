-- Values in which each map's keys rise strictly in byte order.
use Rattle.std.specs.Prelude.{⊤}
use Rattle.heat_value.specs.Data.{Data, null, flag, whole, words, items, fields, Nodes, no_nodes, node, Members, no_members}
use Rattle.heat_value.specs.Data.{member, Rises}

-- the keys of the value's map rise, and so do those of the maps within it
abbrev mutual
  pub KeysRise : Data → Type 0
  KeysRise null = ⊤
  KeysRise (flag b) = ⊤
  KeysRise (whole z) = ⊤
  KeysRise (words s) = ⊤
  KeysRise (items ns) = KeysRiseInItems ns
  KeysRise (fields ms) = Rises ms × KeysRiseInMembers ms

  -- in each value of a list
  pub KeysRiseInItems : Nodes → Type 0
  KeysRiseInItems no_nodes = ⊤
  KeysRiseInItems (node d ns) = KeysRise d × KeysRiseInItems ns

  -- in each value of a map
  pub KeysRiseInMembers : Members → Type 0
  KeysRiseInMembers no_members = ⊤
  KeysRiseInMembers (member k d ms) = KeysRise d × KeysRiseInMembers ms
