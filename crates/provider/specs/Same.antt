-- Whether two tokens, property maps, facts or states are the same.
use Rattle.std.specs.Prelude.{Bool, true, false, not, ◌&&◌, ◌==◌, bytes_eq}
use Rattle.std.specs.Ordering.{int_eq}
use Rattle.heat_value.specs.Data.{Data, null, flag, whole, words, items, fields, Nodes}
use Rattle.heat_value.specs.Data.{no_nodes, node, Members, no_members, member}
use Rattle.heat_plan.specs.declared.token.Token.{Token}
use Rattle.heat_plan.specs.declared.facts.Facts.{Facts}

abbrev pub same_token : Token → Token → Bool
same_token a b = bytes_eq a.stack b.stack && (bytes_eq a.name b.name && (a.row == b.row))

abbrev pub same_flag : Bool → Bool → Bool
same_flag true b = b
same_flag false b = not b

abbrev mutual
  pub same_data : Data → Data → Bool
  same_data null null = true
  same_data (flag a) (flag b) = same_flag a b
  same_data (whole a) (whole b) = int_eq a b
  same_data (words a) (words b) = bytes_eq a b
  same_data (items a) (items b) = same_nodes a b
  same_data (fields a) (fields b) = same_members a b
  same_data a b = false

  pub same_nodes : Nodes → Nodes → Bool
  same_nodes no_nodes no_nodes = true
  same_nodes (node a more) (node b rest) = same_data a b && same_nodes more rest
  same_nodes a b = false

  pub same_members : Members → Members → Bool
  same_members no_members no_members = true
  same_members (member k a more) (member l b rest) = bytes_eq k l && (same_data a b && same_members more rest)
  same_members a b = false

abbrev pub same_facts : Facts → Facts → Bool
same_facts a b = bytes_eq a.id b.id && same_members a.attrs b.attrs
