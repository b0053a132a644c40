-- Values as bytes: a tag, and what is behind it. A flag is its tag alone.
use Rattle.std.specs.Prelude.{ℕ, suc, ◌<◌, ◌≤◌, ◌^◌, ℤ, List, [], ◌∷◌, ◌++◌, true, false, FitsSigned}
use Rattle.std.specs.Int.{w64, cast_unsigned}
use Rattle.heat_value.specs.Data.{Data, null, flag, whole, words, items, fields, Nodes, no_nodes, node}
use Rattle.heat_value.specs.Data.{Members, no_members, member, Rises, depth, members_depth}
use Rattle.plan_codec.specs.Numbers.{spelled_number, spelled_bytes, IsText}

-- how many values a list has, and how many members a map
abbrev pub nodes_count : Nodes → ℕ
nodes_count no_nodes = 0
nodes_count (node d ns) = suc (nodes_count ns)

abbrev pub members_count : Members → ℕ
members_count no_members = 0
members_count (member k d ms) = suc (members_count ms)

-- the two's complement of a whole number
abbrev pub spelled_whole : ℤ → List ℕ
spelled_whole z = spelled_number (cast_unsigned w64 z)

abbrev pub IsWhole : ℤ → Type 0
IsWhole z = FitsSigned w64 z

abbrev mutual
  pub spelled_value : Data → List ℕ
  spelled_value null = 0 ∷ []
  spelled_value (flag false) = 1 ∷ []
  spelled_value (flag true) = 2 ∷ []
  spelled_value (whole z) = 3 ∷ spelled_whole z
  spelled_value (words s) = 4 ∷ spelled_bytes s
  spelled_value (items ns) = 5 ∷ (spelled_number (nodes_count ns) ++ spelled_nodes ns)
  spelled_value (fields ms) = 6 ∷ (spelled_number (members_count ms) ++ spelled_members ms)

  pub spelled_nodes : Nodes → List ℕ
  spelled_nodes no_nodes = []
  spelled_nodes (node d ns) = spelled_value d ++ spelled_nodes ns

  pub spelled_members : Members → List ℕ
  spelled_members no_members = []
  spelled_members (member k d ms) = (spelled_bytes k ++ spelled_value d) ++ spelled_members ms

-- whole numbers of 64 bits with sign, texts in UTF-8, fewer than 2^64 parts, keys that rise strictly
abbrev mutual
  pub IsValue : Data → Type 0
  IsValue null = Unit {0}
  IsValue (flag b) = Unit {0}
  IsValue (whole z) = IsWhole z
  IsValue (words s) = IsText s
  IsValue (items ns) = (nodes_count ns < 2 ^ 64) × AreValues ns
  IsValue (fields ms) = (members_count ms < 2 ^ 64) × (AreMembers ms × Rises ms)

  pub AreValues : Nodes → Type 0
  AreValues no_nodes = Unit {0}
  AreValues (node d ns) = IsValue d × AreValues ns

  pub AreMembers : Members → Type 0
  AreMembers no_members = Unit {0}
  AreMembers (member k d ms) = (IsText k × IsValue d) × AreMembers ms

-- a value that nests so deep at most
abbrev pub IsWithin : ℕ → Data → Type 0
IsWithin limit d = IsValue d × (depth d ≤ limit)

-- a list by itself
abbrev pub spelled_items : Nodes → List ℕ
spelled_items ns = spelled_number (nodes_count ns) ++ spelled_nodes ns

abbrev pub AreItems : ℕ → Nodes → Type 0
AreItems limit ns = IsWithin limit (items ns)

-- a map by itself, each of whose values nests so deep at most
abbrev pub spelled_fields : Members → List ℕ
spelled_fields ms = spelled_number (members_count ms) ++ spelled_members ms

abbrev pub AreFields : ℕ → Members → Type 0
AreFields limit ms = IsValue (fields ms) × (members_depth ms ≤ limit)

-- a map by itself that nests so deep at most
abbrev pub IsWithinFields : ℕ → Members → Type 0
IsWithinFields limit ms = IsWithin limit (fields ms)
