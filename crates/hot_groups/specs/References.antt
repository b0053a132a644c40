-- References to groups, and what stands in their place.
use Rattle.std.specs.Prelude.{ℕ, ◌==◌, nat_lt, List, [], ◌∷◌, ◌++◌, length, Bool, false, ◌||◌, Option, Some, None}
use Rattle.std.specs.Prelude.{option_map, option_and_then, unwrap_or, bytes_eq, codes, if◌then◌else◌}
use Rattle.std.specs.List.{before_first, after_first, position_or_len}
use Rattle.heat_value.specs.Data.{Data, null, flag, whole, words, items, fields, Nodes, no_nodes, node}
use Rattle.heat_value.specs.Data.{Members, no_members, member, lookup}
use Rattle.hot_functions.specs.Forms.{lone}
use Rattle.eval_words.specs.Lookups.{step_into_list}
use Rattle.eval_words.specs.Sorts.{text_in, list_in, listed}
use Rattle.hot_groups.specs.declared.reference.Reference.{Reference}
use Rattle.hot_groups.specs.declared.reference.Reference.TheVariants.{Whole, Part}

-- ---- what a function refers to

-- a resource as a whole, by its name
abbrev pub whole_in : Data → Option Reference
whole_in d = option_map Whole (text_in d)

-- by what stands behind the name: nothing, or an attribute and a path
abbrev pub referred_behind : List ℕ → Nodes → Option Reference
referred_behind s no_nodes = Some (Whole s)
referred_behind s (node a path) = option_map (λ t. Part s t path) (text_in a)

-- by the list of a name and what stands behind it
abbrev pub referred_by : Nodes → Option Reference
referred_by no_nodes = None
referred_by (node name rest) = option_and_then (λ s. referred_behind s rest) (text_in name)

-- get_resource refers to a whole, get_attr by a list; any other function, or one off its form, to nothing
abbrev pub referred : List ℕ × Data → Option Reference
referred (k, a) =
    if bytes_eq k (codes "get_resource") then whole_in a else (
    if bytes_eq k (codes "get_attr") then referred_by (listed a) else None)

-- the name that is referred to
abbrev pub name_in : Reference → List ℕ
name_in (Whole s) = s
name_in (Part s t path) = s

-- the names of a group's members, by the group's name
abbrev pub roster : Members → List ℕ → Option Nodes
roster groups s = option_and_then list_in (lookup s groups)

-- the reference with the group's members; none where it isn't to a group
abbrev pub with_roster : Members → Reference → Option (Reference × Nodes)
with_roster groups r = option_map (λ ns. (r, ns)) (roster groups (name_in r))

-- an object's reference to a group
abbrev pub group_reference : Members → Members → Option (Reference × Nodes)
group_reference groups ms = option_and_then (with_roster groups) (option_and_then referred (lone ms))

-- ---- what stands in its place

-- get_resource of this name
abbrev pub id_of : Data → Data
id_of name = fields (member (codes "get_resource") name no_members)

-- get_attr of this name, with these parts behind it
abbrev pub attr_of : Nodes → Data → Data
attr_of behind name = fields (member (codes "get_attr") (items (node name behind)) no_members)

-- each value of a list as something makes it
abbrev pub each_node : (Data → Data) → Nodes → Nodes
each_node made no_nodes = no_nodes
each_node made (node d ns) = node (made d) (each_node made ns)

-- `refs`: the members' ids; with one whole number behind it, the id of the member with that number
abbrev pub ids_for : Nodes → Nodes → Option Data
ids_for ns no_nodes = Some (items (each_node id_of ns))
ids_for ns (node k no_nodes) = option_map id_of (step_into_list ns k)
ids_for ns (node k (node d path)) = None

abbrev pub is_dot : ℕ → Bool
is_dot b = b == 46

-- a text as it stands in front of its first dot
abbrev pub before_dot : List ℕ → List ℕ
before_dot s = before_first is_dot s

-- what stands behind a text's first dot, where it has one
abbrev pub behind_dot : List ℕ → Option (List ℕ)
behind_dot s = if nat_lt (position_or_len is_dot s) (length s) then Some (after_first is_dot s) else None

-- the text is this
abbrev pub is_words : List ℕ → Data → Bool
is_words s null = false
is_words s (flag b) = false
is_words s (whole z) = false
is_words s (words t) = bytes_eq t s
is_words s (items ns) = false
is_words s (fields ms) = false

-- the text is one of these
abbrev pub is_named : List ℕ → Nodes → Bool
is_named s no_nodes = false
is_named s (node d ns) = is_words s d || is_named s ns

-- one member's id, or its attribute at the path; an id has no path
abbrev pub one_for : Data → Option (List ℕ) → Nodes → Option Data
one_for name None no_nodes = Some (id_of name)
one_for name None (node d path) = None
one_for name (Some a) path = Some (attr_of (node (words a) path) name)

-- `resource.k` and `resource.k.a`, by the text behind `resource.`; none where no member has the number
abbrev pub member_for : List ℕ → Nodes → List ℕ → Nodes → Option Data
member_for g ns t path =
    if is_named (g ++ 46 ∷ before_dot t) ns then one_for (words (g ++ 46 ∷ before_dot t)) (behind_dot t) path else None

-- what stands behind the first text at the front of the second, if it stands there
abbrev pub behind_front : List ℕ → List ℕ → Option (List ℕ)
behind_front [] s = Some s
behind_front (x ∷ d) [] = None
behind_front (x ∷ d) (y ∷ s) = if x == y then behind_front d s else None

-- one member's, where the attribute begins with `resource.`; else each member's
abbrev pub member_or_each : List ℕ → List ℕ → Nodes → Nodes → Option (List ℕ) → Option Data
member_or_each g t path ns None = Some (items (each_node (attr_of (node (words t) path)) ns))
member_or_each g t path ns (Some s) = member_for g ns s path

-- what stands in place of an attribute of a group
abbrev pub attribute_for : List ℕ → List ℕ → Nodes → Nodes → Option Data
attribute_for g t path ns =
    if bytes_eq t (codes "refs") then ids_for ns path
    else member_or_each g t path ns (behind_front (codes "resource.") t)

-- what stands in place of a reference to a group with these members; none where it has no meaning
abbrev pub in_place_of : Reference × Nodes → Option Data
in_place_of (Whole g, ns) = None
in_place_of (Part g t path, ns) = attribute_for g t path ns

-- ---- values with their references rewritten

-- a value with each reference to a group rewritten
abbrev mutual
  pub rewritten : Members → Data → Data
  rewritten groups null = null
  rewritten groups (flag b) = flag b
  rewritten groups (whole z) = whole z
  rewritten groups (words s) = words s
  rewritten groups (items ns) = items (nodes_rewritten groups ns)
  rewritten groups (fields ms) =
      unwrap_or (option_and_then in_place_of (group_reference groups ms)) (fields (members_rewritten groups ms))

  pub nodes_rewritten : Members → Nodes → Nodes
  nodes_rewritten groups no_nodes = no_nodes
  nodes_rewritten groups (node d ns) = node (rewritten groups d) (nodes_rewritten groups ns)

  -- the values of an object that is itself no function
  pub members_rewritten : Members → Members → Members
  members_rewritten groups no_members = no_members
  members_rewritten groups (member k d ms) = member k (rewritten groups d) (members_rewritten groups ms)

-- ---- depends_on

-- the nodes of the first list, and those of the second behind them
abbrev pub nodes_before : Nodes → Nodes → Nodes
nodes_before no_nodes others = others
nodes_before (node d ns) others = node d (nodes_before ns others)

-- the names that a name in `depends_on` stands for: a group's members, or itself
abbrev pub named_by : Members → Data → Nodes
named_by groups d = unwrap_or (option_and_then (roster groups) (text_in d)) (node d no_nodes)

-- each name of a list in place, groups by all their members in order
abbrev pub all_named : Members → Nodes → Nodes
all_named groups no_nodes = no_nodes
all_named groups (node d ns) = nodes_before (named_by groups d) (all_named groups ns)

-- `depends_on`: a text that names no group stays
abbrev pub depends_rewritten : Members → Data → Data
depends_rewritten groups null = null
depends_rewritten groups (flag b) = flag b
depends_rewritten groups (whole z) = whole z
depends_rewritten groups (words s) = unwrap_or (option_map items (roster groups s)) (words s)
depends_rewritten groups (items ns) = items (all_named groups ns)
depends_rewritten groups (fields ms) = fields ms
