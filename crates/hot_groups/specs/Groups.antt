-- What a group is, what its properties say, and the names of its members.
use Rattle.std.specs.Prelude.{ℕ, zero, suc, ◌+◌, ℤ, pos, negsuc, nat_le, List, ◌∷◌, ◌++◌, Bool, false, ◌||◌, Option, Some, None}
use Rattle.std.specs.Prelude.{option_and_then, is_some, unwrap_or, bytes_eq, codes, decimal, if◌then◌else◌}
use Rattle.heat_value.specs.Data.{Data, null, flag, whole, words, items, fields, Nodes, no_nodes, node}
use Rattle.heat_value.specs.Data.{Members, no_members, member, lookup}
use Rattle.hot_forms.specs.Shapes.{members_in}
use Rattle.hot_functions.specs.Forms.{lone, form_of}
use Rattle.hot_tree.specs.Readings.{object_in, text_or}
use Rattle.eval_words.specs.Lookups.{walked}
use Rattle.eval_words.specs.Sorts.{text_in, parts}
use Rattle.hot_env.specs.Applied.{is_group as has_group_kind}
use Rattle.hot_env.specs.Environments.{over}

-- ---- groups

-- the resource has the type of groups
abbrev pub is_group : Data → Bool
is_group d = has_group_kind (members_in d)

-- the properties of a resource; absent ones are none
abbrev pub props_of : Data → Members
props_of d = object_in (lookup (codes "properties") (members_in d))

-- ---- how many members a group has

-- the number is 0 to 1,000
abbrev pub within_count : ℤ → Option ℕ
within_count (pos n) = if nat_le n 1000 then Some n else None
within_count (negsuc n) = None

-- the count that a value is: a whole number, 0 to 1,000
abbrev pub as_count : Data → Option ℕ
as_count null = None
as_count (flag b) = None
as_count (whole z) = within_count z
as_count (words s) = None
as_count (items ns) = None
as_count (fields ms) = None

-- the one member of an object is a function
abbrev pub is_function : Option (List ℕ × Data) → Bool
is_function None = false
is_function (Some p) = is_some (form_of p.0)

-- a function stands somewhere in the value
abbrev mutual
  pub has_function : Data → Bool
  has_function null = false
  has_function (flag b) = false
  has_function (whole z) = false
  has_function (words s) = false
  has_function (items ns) = has_function_among ns
  has_function (fields ms) = is_function (lone ms) || has_function_under ms

  pub has_function_among : Nodes → Bool
  has_function_among no_nodes = false
  has_function_among (node d ns) = has_function d || has_function_among ns

  pub has_function_under : Members → Bool
  has_function_under no_members = false
  has_function_under (member k d ms) = has_function d || has_function_under ms

-- what a parameter of this name is bound to, at the path; nothing where a function stands in the path
abbrev pub bound_at : Members → Data → Nodes → Option Data
bound_at bound name path =
    if has_function_among path then None
    else option_and_then (walked path) (option_and_then (λ s. lookup s bound) (text_in name))

-- of a name and the path behind it
abbrev pub bound_by : Members → Nodes → Option Data
bound_by bound no_nodes = None
bound_by bound (node name path) = bound_at bound name path

-- the count that a get_param gives; any other function gives none
abbrev pub count_by : Members → List ℕ × Data → Option ℕ
count_by bound (k, a) =
    if bytes_eq k (codes "get_param") then option_and_then as_count (bound_by bound (parts a)) else None

-- the count that stands there: one that is written, or that a parameter is bound to
abbrev pub counted : Members → Data → Option ℕ
counted bound null = None
counted bound (flag b) = None
counted bound (whole z) = within_count z
counted bound (words s) = None
counted bound (items ns) = None
counted bound (fields ms) = option_and_then (count_by bound) (lone ms)

-- the count of a group; 1 where none is written
abbrev pub count_there : Members → Option Data → Option ℕ
count_there bound None = Some 1
count_there bound (Some d) = counted bound d

-- how many members a group has, by its properties
abbrev pub count_of : Members → Members → ℕ
count_of bound props = unwrap_or (count_there bound (lookup (codes "count") props)) 0

-- ---- what else its properties say

-- the text that a member's number stands in place of
abbrev pub index_var_of : Members → List ℕ
index_var_of props = text_or (codes "%index%") (lookup (codes "index_var") props)

-- the definition that each member has
abbrev pub def_of : Members → Members
def_of props = object_in (lookup (codes "resource_def") props)

-- the properties of the definition
abbrev pub def_props : Members → Members
def_props props = object_in (lookup (codes "properties") (def_of props))

-- ---- the names of members

-- the group's name, a dot and the number
abbrev pub member_name : List ℕ → ℕ → List ℕ
member_name g i = g ++ 46 ∷ decimal i

-- the names of so many members from this number on
abbrev pub names_from : List ℕ → ℕ → ℕ → Nodes
names_from g i zero = no_nodes
names_from g i (suc n) = node (words (member_name g i)) (names_from g (i + 1) n)

-- the names of a group's members, in order
abbrev pub names_of : Members → List ℕ → Data → Nodes
names_of bound g d = names_from g 0 (count_of bound (props_of d))

-- the groups among resources, each with its members' names, in the order of these
abbrev pub rosters : Members → Members → Members
rosters bound no_members = no_members
rosters bound (member k d ms) =
    if is_group d then member k (items (names_of bound k d)) (rosters bound ms) else rosters bound ms

-- the groups by their names
abbrev pub groups_among : Members → Members → Members
groups_among bound ms = over no_members (rosters bound ms)
