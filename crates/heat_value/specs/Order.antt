-- The order of values: by their kinds, and within a kind flags, numbers and texts as each of these is ordered, lists and
-- maps by the first part that differs, the shorter first.
use Rattle.std.specs.Prelude.{ℕ}
use Rattle.std.specs.Ordering.{nat_cmp, int_cmp, bool_cmp, ordering_then}
use Rattle.std.specs.Cmp.Lexicographic.{slice_cmp}
use Rattle.std.specs.declared.cmp.Ordering.{Ordering}
use Rattle.std.specs.declared.cmp.Ordering.TheVariants.{Less, Equal, Greater}
use Rattle.heat_value.specs.Data.{Data, null, flag, whole, words, items, fields, Nodes}
use Rattle.heat_value.specs.Data.{no_nodes, node, Members, no_members, member}

-- where the kind stands among the kinds
abbrev pub kind : Data → ℕ
kind null = 0
kind (flag b) = 1
kind (whole z) = 2
kind (words s) = 3
kind (items ns) = 4
kind (fields ms) = 5

-- how two values compare
abbrev mutual
  pub value_cmp : Data → Data → Ordering
  value_cmp null null = Equal
  value_cmp (flag a) (flag b) = bool_cmp a b
  value_cmp (whole y) (whole z) = int_cmp y z
  value_cmp (words s) (words t) = slice_cmp nat_cmp s t
  value_cmp (items ms) (items ns) = nodes_cmp ms ns
  value_cmp (fields ms) (fields ns) = members_cmp ms ns
  value_cmp d e = nat_cmp (kind d) (kind e)

  -- how the values of two lists compare
  pub nodes_cmp : Nodes → Nodes → Ordering
  nodes_cmp no_nodes no_nodes = Equal
  nodes_cmp no_nodes (node e ns) = Less
  nodes_cmp (node d ms) no_nodes = Greater
  nodes_cmp (node d ms) (node e ns) = ordering_then (value_cmp d e) (nodes_cmp ms ns)

  -- how the members of two maps compare: by the key first, and then by the value
  pub members_cmp : Members → Members → Ordering
  members_cmp no_members no_members = Equal
  members_cmp no_members (member l e ns) = Less
  members_cmp (member k d ms) no_members = Greater
  members_cmp (member k d ms) (member l e ns) =
      ordering_then (slice_cmp nat_cmp k l) (ordering_then (value_cmp d e) (members_cmp ms ns))
