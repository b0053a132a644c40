-- A template to which an environment is applied: a map over its sections, and in them over the entries.
use Rattle.std.specs.Prelude.{ℕ, List, Bool, Option, Some, None, bytes_eq, codes, if◌then◌else◌}
use Rattle.heat_value.specs.Data.{Data, null, flag, whole, words, items, fields}
use Rattle.heat_value.specs.Data.{Members, no_members, member, put, lookup}
use Rattle.hot_tree.specs.Readings.{text_or}
use Rattle.hot_env.specs.declared.env.Env.{Env}

-- each value of a map as something makes it of its key and value
abbrev pub each_value : (List ℕ → Data → Data) → Members → Members
each_value made no_members = no_members
each_value made (member k d ms) = member k (made k d) (each_value made ms)

-- the members of an object made over; any other value as it is
abbrev pub within : (Members → Members) → Data → Data
within made null = null
within made (flag b) = flag b
within made (whole z) = whole z
within made (words s) = words s
within made (items ns) = items ns
within made (fields ms) = fields (made ms)

-- ---- defaults

-- the parameter with this default, if there is one
abbrev pub with_default : Option Data → Data → Data
with_default None d = d
with_default (Some v) d = within (put (codes "default") v) d

-- a parameter with the default that the environment gives it
abbrev pub defaulted : Members → List ℕ → Data → Data
defaulted defaults name d = with_default (lookup name defaults) d

-- ---- types

-- the type that stands for this one
abbrev pub type_for : Members → List ℕ → List ℕ
type_for types s = text_or s (lookup s types)

-- the type that stands there, by its other name
abbrev pub retyped : Members → Data → Data
retyped types null = null
retyped types (flag b) = flag b
retyped types (whole z) = whole z
retyped types (words s) = words (type_for types s)
retyped types (items ns) = items ns
retyped types (fields ms) = fields ms

-- of an object, what stands under one key made over
abbrev pub under_key : List ℕ → (Data → Data) → Members → Members
under_key key made ms = each_value (λ k d. if bytes_eq k key then made d else d) ms

-- the type of a definition by its other name
abbrev pub retyped_in : Members → Members → Members
retyped_in types ms = under_key (codes "type") (retyped types) ms

-- the inner type of a group's properties likewise
abbrev pub inner_retyped : Members → Members → Members
inner_retyped types props = under_key (codes "resource_def") (within (retyped_in types)) props

abbrev pub group_kind : List ℕ
group_kind = codes "OS::Heat::ResourceGroup"

-- the resource has the type of groups
abbrev pub is_group : Members → Bool
is_group ms = bytes_eq (text_or (codes "") (lookup (codes "type") ms)) group_kind

-- a resource whose type is renamed; the inner type too, where it is a group then
abbrev pub with_inner : Members → Members → Members
with_inner types ms = if is_group ms then under_key (codes "properties") (within (inner_retyped types)) ms else ms

abbrev pub renamed : Members → List ℕ → Data → Data
renamed types name d = within (λ ms. with_inner types (retyped_in types ms)) d

-- ---- the template

-- a section: parameters with their defaults, resources with their types renamed, any other as it is
abbrev pub section_applied : Env → List ℕ → Data → Data
section_applied e k d =
    if bytes_eq k (codes "parameters") then within (each_value (defaulted e.defaults)) d else (
    if bytes_eq k (codes "resources") then within (each_value (renamed e.types)) d else d)

-- the template with the environment's defaults and other names of types
abbrev pub applied : Env → Members → Members
applied e template = each_value (section_applied e) template
