-- Equality of values, as a flag.
use Rattle.std.specs.Prelude.{ℕ, ℤ, List, Bool, true, false, ◌&&◌, ◌||◌, bytes_eq}
use Rattle.std.specs.Bool.{beq}
use Rattle.std.specs.Ordering.{int_eq}
use Rattle.heat_value.specs.Data.{Data, null, flag, whole, words, items, fields, Nodes, no_nodes, node}
use Rattle.heat_value.specs.Data.{Members, no_members, member}
use Rattle.hot_forms.specs.Shapes.{is_null}

-- the value is this flag
abbrev pub is_the_flag : Bool → Data → Bool
is_the_flag a null = false
is_the_flag a (flag b) = beq a b
is_the_flag a (whole z) = false
is_the_flag a (words s) = false
is_the_flag a (items ns) = false
is_the_flag a (fields ms) = false

-- the value is this whole number
abbrev pub is_the_whole : ℤ → Data → Bool
is_the_whole y null = false
is_the_whole y (flag b) = false
is_the_whole y (whole z) = int_eq y z
is_the_whole y (words s) = false
is_the_whole y (items ns) = false
is_the_whole y (fields ms) = false

-- the value is this text
abbrev pub is_the_text : List ℕ → Data → Bool
is_the_text t null = false
is_the_text t (flag b) = false
is_the_text t (whole z) = false
is_the_text t (words s) = bytes_eq t s
is_the_text t (items ns) = false
is_the_text t (fields ms) = false

-- two values are one
abbrev mutual
  pub is_same : Data → Data → Bool
  is_same null d = is_null d
  is_same (flag a) d = is_the_flag a d
  is_same (whole y) d = is_the_whole y d
  is_same (words t) d = is_the_text t d
  is_same (items ns) null = false
  is_same (items ns) (flag b) = false
  is_same (items ns) (whole z) = false
  is_same (items ns) (words s) = false
  is_same (items ns) (items ps) = are_same ns ps
  is_same (items ns) (fields ms) = false
  is_same (fields ms) null = false
  is_same (fields ms) (flag b) = false
  is_same (fields ms) (whole z) = false
  is_same (fields ms) (words s) = false
  is_same (fields ms) (items ns) = false
  is_same (fields ms) (fields ls) = hold_same ms ls

  -- the values of two lists are the same, in the same order
  pub are_same : Nodes → Nodes → Bool
  are_same no_nodes no_nodes = true
  are_same no_nodes (node e ps) = false
  are_same (node d ns) no_nodes = false
  are_same (node d ns) (node e ps) = is_same d e && are_same ns ps

  -- the members of two objects are the same, keys and values, in the same order
  pub hold_same : Members → Members → Bool
  hold_same no_members no_members = true
  hold_same no_members (member l e ls) = false
  hold_same (member k d ms) no_members = false
  hold_same (member k d ms) (member l e ls) = bytes_eq k l && is_same d e && hold_same ms ls

-- a list has the value
abbrev pub has : Data → Nodes → Bool
has d no_nodes = false
has d (node e ns) = is_same d e || has d ns
