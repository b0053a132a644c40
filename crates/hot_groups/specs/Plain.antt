-- The plain template that a template with groups means: a map over its resources, and its references rewritten.
use Rattle.std.specs.Prelude.{ℕ, zero, suc, ◌+◌, List, ◌∷◌, [], bytes_eq, codes, if◌then◌else◌}
use Rattle.heat_value.specs.Data.{Data, fields, Members, no_members, member}
use Rattle.hot_forms.specs.Checks.{is_among}
use Rattle.hot_forms.specs.Shapes.{members_in}
use Rattle.hot_tree.specs.Readings.{entries}
use Rattle.hot_env.specs.Applied.{each_value, within, under_key}
use Rattle.hot_env.specs.Environments.{over}
use Rattle.hot_groups.specs.Groups.{is_group, props_of, count_of, index_var_of, def_of, member_name, groups_among}
use Rattle.hot_groups.specs.Numbers.{with_number, map_from, retold}
use Rattle.hot_groups.specs.References.{rewritten, members_rewritten, depends_rewritten}

-- ---- members

-- the entries with one of these keys
abbrev pub only : List (List ℕ) → Members → Members
only keys no_members = no_members
only keys (member k d ms) = if is_among keys k then member k d (only keys ms) else only keys ms

-- what a member has of its group
abbrev pub of_group : List (List ℕ)
of_group =
    codes "condition" ∷ codes "deletion_policy" ∷ codes "depends_on" ∷ codes "external_id" ∷ codes "update_policy" ∷ []

-- what it has of the definition: the type, and the properties with its number in place of the index variable
abbrev pub of_definition : (List ℕ → List ℕ) → Members → Members
of_definition f def = under_key (codes "properties") (retold f) (only (codes "properties" ∷ codes "type" ∷ []) def)

-- the member of a group with this number
abbrev pub made : Data → ℕ → Members
made d i =
    over (map_from (only of_group (members_in d)))
    (of_definition (with_number (index_var_of (props_of d)) i) (def_of (props_of d)))

-- so many members from this number on, by their names
abbrev pub made_from : List ℕ → Data → ℕ → ℕ → Members
made_from g d i zero = no_members
made_from g d i (suc n) = member (member_name g i) (fields (made d i)) (made_from g d (i + 1) n)

-- a resource stands for itself, a group for its members
abbrev pub meant : Members → List ℕ → Data → Members
meant bound k d =
    if is_group d then made_from k d 0 (count_of bound (props_of d)) else member k d no_members

-- the entries of the first list, and those of the second behind them
abbrev pub before : Members → Members → Members
before no_members others = others
before (member k d ms) others = member k d (before ms others)

-- what all resources stand for, in the order of these
abbrev pub all_meant : Members → Members → Members
all_meant bound no_members = no_members
all_meant bound (member k d ms) = before (meant bound k d) (all_meant bound ms)

-- ---- references

-- a part of a resource: in its properties, whose map is itself no function, and in `depends_on`
abbrev pub part_rewritten : Members → List ℕ → Data → Data
part_rewritten groups k d =
    if bytes_eq k (codes "properties") then within (members_rewritten groups) d else (
    if bytes_eq k (codes "depends_on") then depends_rewritten groups d else d)

abbrev pub resource_rewritten : Members → Data → Data
resource_rewritten groups d = within (each_value (part_rewritten groups)) d

-- an output's value
abbrev pub output_rewritten : Members → Data → Data
output_rewritten groups d = within (under_key (codes "value") (rewritten groups)) d

-- ---- the template

-- each resource, or the members that it stands for, rewritten, by their names in byte order
abbrev pub resources_meant : Members → Members → Members → Members
resources_meant bound groups ms = each_value (λ k d. resource_rewritten groups d) (map_from (all_meant bound ms))

-- a section: resources and outputs made over, any other as it is
abbrev pub section_meant : Members → Members → List ℕ → Data → Data
section_meant bound groups k d =
    if bytes_eq k (codes "resources") then within (resources_meant bound groups) d else (
    if bytes_eq k (codes "outputs") then within (each_value (λ name o. output_rewritten groups o)) d else d)

-- the plain template
abbrev pub plain : Members → Members → Members
plain bound template =
    each_value (section_meant bound (groups_among bound (entries (codes "resources") template))) template
