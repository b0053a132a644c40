-- What a value is, as plain data: its numbers are whole, and a map's keys rise strictly.
use Rattle.std.specs.Prelude.{ℕ, suc, max, ℤ, List, [], ◌∷◌, Bool, Option, Some, None, if◌then◌else◌}
use Rattle.std.specs.Ordering.{nat_cmp, match_ordering}
use Rattle.std.specs.Cmp.Lexicographic.{slice_cmp}
use Rattle.std.specs.List.Sorted.{IsStrictlySortedBy}
use Rattle.std.specs.Str.{bytes_eq}

-- null, a flag, a whole number, a text, a list, or a map
mutual
  pub data Data : Type 0 where
    null : Data
    flag : Bool → Data
    whole : ℤ → Data
    words : List ℕ → Data
    items : Nodes → Data
    fields : Members → Data

  -- the values of a list, in order
  pub data Nodes : Type 0 where
    no_nodes : Nodes
    node : Data → Nodes → Nodes

  -- the members of a map, a key and a value each, in order
  pub data Members : Type 0 where
    no_members : Members
    member : List ℕ → Data → Members → Members

-- how deep lists and maps nest; a scalar has depth 0
abbrev mutual
  pub depth : Data → ℕ
  depth null = 0
  depth (flag b) = 0
  depth (whole z) = 0
  depth (words s) = 0
  depth (items ns) = suc (nodes_depth ns)
  depth (fields ms) = suc (members_depth ms)

  -- that of the deepest of a list's values, and 0 for no values
  pub nodes_depth : Nodes → ℕ
  nodes_depth no_nodes = 0
  nodes_depth (node d ns) = max (depth d) (nodes_depth ns)

  -- that of the deepest of a map's values, and 0 for no members
  pub members_depth : Members → ℕ
  members_depth no_members = 0
  members_depth (member k d ms) = max (depth d) (members_depth ms)

-- the keys of a map, in order
abbrev pub keys_of : Members → List (List ℕ)
keys_of no_members = []
keys_of (member k d ms) = k ∷ keys_of ms

-- the keys rise strictly in byte order
abbrev pub Rises : Members → Type 0
Rises ms = IsStrictlySortedBy (slice_cmp nat_cmp) (keys_of ms)

-- the list with d behind its last
abbrev pub node_last : Nodes → Data → Nodes
node_last no_nodes d = node d no_nodes
node_last (node e ns) d = node e (node_last ns d)

-- what stands under the key k
abbrev pub lookup : List ℕ → Members → Option Data
lookup k no_members = None
lookup k (member l d ms) = if bytes_eq l k then Some d else lookup k ms

-- the map with d under k, in place of what stood there
abbrev pub put : List ℕ → Data → Members → Members
put k d no_members = member k d no_members
put k d (member l e ms) =
    match_ordering (slice_cmp nat_cmp k l) (member k d (member l e ms)) (member k d ms) (member l e (put k d ms))
