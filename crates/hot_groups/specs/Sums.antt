-- G03: references that have no meaning, and the bytes that all of them come to, in the stated walk.
use Rattle.std.specs.Prelude.{◌≡◌, ℕ, zero, suc, ◌+◌, nat_le, Option, Some, None, Result, Ok, Err}
use Rattle.std.specs.Prelude.{Bool, option_and_then, codes, if◌then◌else◌, ⊤}
use Rattle.std.specs.Option.{option_or}
use Rattle.heat_value.specs.Data.{Data, null, flag, whole, words, items, fields, Nodes, no_nodes, node}
use Rattle.heat_value.specs.Data.{Members, no_members, member, lookup, depth}
use Rattle.heat_value.specs.declared.path.Step.{Step}
use Rattle.heat_value.specs.declared.path.Step.TheVariants.{Key, Index}
use Rattle.hot_forms.specs.Shapes.{members_in}
use Rattle.eval_words.specs.Outcomes.{size}
use Rattle.eval_words.specs.Sorts.{text_in}
use Rattle.hot_tree.specs.Readings.{entries, or_null}
use Rattle.hot_groups.specs.Codes.{wrong, deeper, under}
use Rattle.hot_groups.specs.Groups.{is_group, props_of, count_of, index_var_of, def_props, groups_among}
use Rattle.hot_groups.specs.Numbers.{with_number, members_retold}
use Rattle.hot_groups.specs.References.{group_reference, in_place_of, roster}
use Rattle.hot_groups.specs.declared.code.GroupCode.TheVariants.{G03}
use Rattle.hot_groups.specs.declared.flaw.GroupFlaw.{GroupFlaw}
use Rattle.hot_groups.specs.declared.fault.GroupFault.{GroupFault}
use Rattle.hot_groups.specs.declared.reference.Reference.{Reference}
use Rattle.hot_groups.specs.declared.fault.GroupFault.TheVariants.{Wrong, Memory}

-- ---- sums

-- how much all members, and all references that are rewritten, may come to
abbrev pub bound_on_sums : ℕ
bound_on_sums = 16777216

-- the bytes so far, or G03
abbrev pub Sum : Type 0
Sum = Result ℕ GroupFlaw

-- what comes next, at the sum that was reached; a flaw ends it
abbrev pub and_then : Sum → (ℕ → Sum) → Sum
and_then (Ok t) next = next t
and_then (Err f) next = Err f

-- the same, seen from one step above
abbrev pub seen_under : Step → Sum → Sum
seen_under s (Ok t) = Ok t
seen_under s (Err f) = Err (deeper s f)

-- so many bytes more, where that passes no bound
abbrev pub added : ℕ → ℕ → Sum
added t n = if nat_le (t + n) bound_on_sums then Ok (t + n) else Err (wrong G03)

-- the sum where nothing is found, else what is found
abbrev pub unless_found : Option GroupFlaw → Sum → Sum
unless_found None s = s
unless_found (Some f) s = Err f

-- what a function gives that may want memory
abbrev pub IsSum : Result ℕ GroupFault → Sum → Type 0
IsSum (Ok t) s = s ≡ Ok t
IsSum (Err (Wrong f)) s = s ≡ Err f
IsSum (Err Memory) s = ⊤

-- ---- values

-- G03 at an object that is a reference to a group, else what is found under it
abbrev pub at_reference : Option (Reference × Nodes) → Option GroupFlaw → Option GroupFlaw
at_reference None found = found
at_reference (Some r) found = Some (wrong G03)

-- the template with this value so many steps below its root is at most 64 deep there
abbrev pub is_shallow : ℕ → Data → Bool
is_shallow level d = nat_le (level + depth d) 64

-- what is put in place of a reference: it has a meaning, no reference to a group stands in its path, it is not too deep, and
-- there is room for it
abbrev pub counted_as : ℕ → ℕ → Option GroupFlaw → Option Data → Sum
counted_as level t inner None = Err (wrong G03)
counted_as level t inner (Some d) =
    unless_found inner (if is_shallow level d then added t (size d) else Err (wrong G03))

-- an object is read as something tells it, where it stands in a group's definition; its paths are those as written
module _ (groups : Members) (told : Members → Members) where
  -- the first reference to a group anywhere in a value, where none may stand
  abbrev mutual
    pub inner_reference : Data → Option GroupFlaw
    inner_reference null = None
    inner_reference (flag b) = None
    inner_reference (whole z) = None
    inner_reference (words s) = None
    inner_reference (items ns) = inner_among 0 ns
    inner_reference (fields ms) = at_reference (group_reference groups (told ms)) (inner_under ms)

    -- among a list's values from the place i on
    pub inner_among : ℕ → Nodes → Option GroupFlaw
    inner_among i no_nodes = None
    inner_among i (node d ns) = option_or (under (Index i) (inner_reference d)) (inner_among (i + 1) ns)

    pub inner_under : Members → Option GroupFlaw
    inner_under no_members = None
    inner_under (member k d ms) = option_or (under (Key k) (inner_reference d)) (inner_under ms)

  -- an object: the reference that it is, or else what its values come to
  abbrev pub object_sum : ℕ → ℕ → Members → Sum → Option (Reference × Nodes) → Sum
  object_sum level t ms beneath None = beneath
  object_sum level t ms beneath (Some r) = counted_as level t (inner_under ms) (in_place_of r)

  -- the sum behind a value, so many steps below the root, with this sum before it
  abbrev mutual
    pub value_sum : ℕ → ℕ → Data → Sum
    value_sum level t null = Ok t
    value_sum level t (flag b) = Ok t
    value_sum level t (whole z) = Ok t
    value_sum level t (words s) = Ok t
    value_sum level t (items ns) = sum_among (suc level) t 0 ns
    value_sum level t (fields ms) =
        object_sum level t ms (sum_under (suc level) t ms) (group_reference groups (told ms))

    -- among a list's values from the place i on
    pub sum_among : ℕ → ℕ → ℕ → Nodes → Sum
    sum_among level t i no_nodes = Ok t
    sum_among level t i (node d ns) =
        and_then (seen_under (Index i) (value_sum level t d)) (λ u. sum_among level u (i + 1) ns)

    -- the values of an object that is itself no function
    pub sum_under : ℕ → ℕ → Members → Sum
    sum_under level t no_members = Ok t
    sum_under level t (member k d ms) =
        and_then (seen_under (Key k) (value_sum level t d)) (λ u. sum_under level u ms)

-- ---- depends_on

-- a group's members in place of its name, as a compact list
abbrev pub roster_added : ℕ → Option Nodes → Sum
roster_added t None = Ok t
roster_added t (Some ns) = added t (size (items ns))

-- a name in `depends_on`
abbrev pub name_sum : Members → ℕ → Data → Sum
name_sum groups t d = roster_added t (option_and_then (roster groups) (text_in d))

-- the names of a list from the place i on
abbrev pub names_sum : Members → ℕ → ℕ → Nodes → Sum
names_sum groups t i no_nodes = Ok t
names_sum groups t i (node d ns) =
    and_then (seen_under (Index i) (name_sum groups t d)) (λ u. names_sum groups u (i + 1) ns)

-- one name, or a list of them
abbrev pub depends_sum : Members → ℕ → Data → Sum
depends_sum groups t null = Ok t
depends_sum groups t (flag b) = Ok t
depends_sum groups t (whole z) = Ok t
depends_sum groups t (words s) = name_sum groups t (words s)
depends_sum groups t (items ns) = names_sum groups t 0 ns
depends_sum groups t (fields ms) = Ok t

-- what a resource depends on
abbrev pub depends_sum_of : Members → ℕ → Data → Sum
depends_sum_of groups t d =
    seen_under (Key (codes "depends_on")) (depends_sum groups t (or_null (lookup (codes "depends_on") (members_in d))))

-- ---- resources, members and outputs

-- the properties of a resource stand four steps below the root, also those of a member
abbrev pub prop_level : ℕ
prop_level = 4

-- a resource that is no group: its properties as written, then what it depends on
abbrev pub plain_sum : Members → ℕ → Data → Sum
plain_sum groups t d =
    and_then (seen_under (Key (codes "properties")) (sum_under groups (λ ms. ms) prop_level t (props_of d)))
    (λ u. depends_sum_of groups u d)

-- a member: the definition's properties with its number, then what the group depends on
abbrev pub member_sum : Members → ℕ → Data → ℕ → Sum
member_sum groups t d i =
    and_then
    (seen_under (Key (codes "properties")) (seen_under (Key (codes "resource_def")) (seen_under (Key (codes "properties"))
    (sum_under groups (members_retold (with_number (index_var_of (props_of d)) i)) prop_level t (def_props (props_of d))))))
    (λ u. depends_sum_of groups u d)

-- so many members of a group from this number on
abbrev pub members_sum : Members → ℕ → Data → ℕ → ℕ → Sum
members_sum groups t d i zero = Ok t
members_sum groups t d i (suc n) = and_then (member_sum groups t d i) (λ u. members_sum groups u d (i + 1) n)

-- a resource, or each member of a group
abbrev pub resource_sum : Members → Members → ℕ → Data → Sum
resource_sum bound groups t d =
    if is_group d then members_sum groups t d 0 (count_of bound (props_of d)) else plain_sum groups t d

-- the resources by their names as written
abbrev pub resources_sum : Members → Members → ℕ → Members → Sum
resources_sum bound groups t no_members = Ok t
resources_sum bound groups t (member k d ms) =
    and_then (seen_under (Key k) (resource_sum bound groups t d)) (λ u. resources_sum bound groups u ms)

-- the value of an output stands three steps below the root
abbrev pub output_sum : Members → ℕ → Data → Sum
output_sum groups t d = seen_under (Key (codes "value"))
    (value_sum groups (λ ms. ms) 3 t (or_null (lookup (codes "value") (members_in d))))

abbrev pub outputs_sum : Members → ℕ → Members → Sum
outputs_sum groups t no_members = Ok t
outputs_sum groups t (member k d ms) =
    and_then (seen_under (Key k) (output_sum groups t d)) (λ u. outputs_sum groups u ms)

-- all references of a template: its resources, then its outputs
abbrev pub template_sum : Members → Members → Sum
template_sum bound template =
    let groups : Members = groups_among bound (entries (codes "resources") template) in
    and_then
    (seen_under (Key (codes "resources")) (resources_sum bound groups 0 (entries (codes "resources") template)))
    (λ u. seen_under (Key (codes "outputs")) (outputs_sum groups u (entries (codes "outputs") template)))
