-- A value's text: compact JSON.
use Rattle.std.specs.Prelude.{ℕ, List, Bool}
use Rattle.serde_json.specs.Data as json
use Rattle.serde_json.specs.Find.{of_integer}
use Rattle.serde_json.specs.Written.{compact_text, items_text, members_text}
use Rattle.heat_value.specs.Data.{Data, null, flag, whole, words, items, fields, Nodes}
use Rattle.heat_value.specs.Data.{no_nodes, node, Members, no_members, member}

-- the value as `serde_json` has it
abbrev mutual
  pub json_of : Data → json.Data
  json_of null = json.null
  json_of (flag b) = json.boolean b
  json_of (whole z) = json.number (of_integer z)
  json_of (words s) = json.string s
  json_of (items ns) = json.array (json_items ns)
  json_of (fields ms) = json.object (json_members ms)

  -- the values of a list
  pub json_items : Nodes → json.Items
  json_items no_nodes = json.no_items
  json_items (node d ns) = json.item (json_of d) (json_items ns)

  -- the members of a map, in the same order
  pub json_members : Members → json.Members
  json_members no_members = json.no_members
  json_members (member k d ms) = json.member k (json_of d) (json_members ms)

-- the value's text
abbrev pub compact : Data → List ℕ
compact d = compact_text (json_of d)

-- the rest of a list's text, with a comma in front where something stands before
abbrev pub nodes_text : Bool → Nodes → List ℕ
nodes_text later ns = items_text later (json_items ns)

-- the rest of a map's text, with a comma in front where something stands before
abbrev pub fields_text : Bool → Members → List ℕ
fields_text later ms = members_text later (json_members ms)
