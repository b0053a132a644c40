-- G01 of all groups, then G02 of all, then G03: the first of a template, by its path from the root.
use Rattle.std.specs.Prelude.{◌≡◌, ℕ, zero, suc, ◌+◌, ◌*◌, nat_le, List, Bool, false, not, ◌&&◌, ◌||◌, Option, Some, None}
use Rattle.std.specs.Prelude.{Ok, Err, is_some, codes, if◌then◌else◌, ⊤}
use Rattle.std.specs.Option.{option_or}
use Rattle.heat_value.specs.Data.{fields, Members, no_members, member, lookup}
use Rattle.heat_value.specs.declared.path.Step.TheVariants.{Key}
use Rattle.hot_forms.specs.Names.{is_name}
use Rattle.hot_tree.specs.Readings.{entries, or_null}
use Rattle.eval_words.specs.Outcomes.{size}
use Rattle.hot_groups.specs.Codes.{wrong, deeper, under}
use Rattle.hot_groups.specs.Forms.{form_flaw}
use Rattle.hot_groups.specs.Groups.{is_group, props_of, count_of, index_var_of, def_props, member_name}
use Rattle.hot_groups.specs.Numbers.{with_number, meeting}
use Rattle.hot_groups.specs.Sums.{Sum, bound_on_sums, template_sum}
use Rattle.hot_groups.specs.declared.code.GroupCode.TheVariants.{G01, G02}
use Rattle.hot_groups.specs.declared.flaw.GroupFlaw.{GroupFlaw}
use Rattle.hot_groups.specs.declared.fault.GroupFault.{GroupFault}
use Rattle.hot_groups.specs.declared.fault.GroupFault.TheVariants.{Wrong, Memory}

-- ---- G01

-- what a group's members come to: each has 256 bytes and those of the definition as compact JSON
abbrev pub cost_of : Members → Members → ℕ
cost_of bound props = count_of bound props * (256 + size (or_null (lookup (codes "resource_def") props)))

-- at the count, or at the properties where none is written
abbrev pub at_count : Members → GroupFlaw
at_count props =
    if is_some (lookup (codes "count") props) then deeper (Key (codes "count")) (wrong G01) else wrong G01

-- the members of this group and of those before it come to too much
abbrev pub too_much : ℕ → Members → Option GroupFlaw
too_much total props = if nat_le total bound_on_sums then None else Some (at_count props)

-- of so many members from this number on, the first in which two keys become one
abbrev pub meeting_from : List ℕ → Members → ℕ → ℕ → Option GroupFlaw
meeting_from v ms i zero = None
meeting_from v ms i (suc n) = option_or (meeting (with_number v i) (fields ms)) (meeting_from v ms (i + 1) n)

-- two keys of a definition's properties become one
abbrev pub keys_flaw : Members → Members → Option GroupFlaw
keys_flaw bound props = under (Key (codes "resource_def")) (under (Key (codes "properties"))
    (meeting_from (index_var_of props) (def_props props) 0 (count_of bound props)))

-- G01 of a group, by its properties, with the sum of the groups up to it
abbrev pub group_flaw : Members → ℕ → Members → Option GroupFlaw
group_flaw bound total props = under (Key (codes "properties"))
    (option_or (form_flaw bound props) (option_or (too_much total props) (keys_flaw bound props)))

-- G01 of the first group in byte order that has it, with the sum of the groups before these
abbrev pub unfit_group : Members → ℕ → Members → Option GroupFlaw
unfit_group bound t no_members = None
unfit_group bound t (member k d ms) =
    if is_group d
    then option_or (under (Key k) (group_flaw bound (t + cost_of bound (props_of d)) (props_of d)))
    (unfit_group bound (t + cost_of bound (props_of d)) ms)
    else unfit_group bound t ms

-- ---- G02

-- another resource has the name, or it is off the grammar of names
abbrev pub is_barred : Members → List ℕ → Bool
is_barred resources name = is_some (lookup name resources) || not (is_name name)

-- one of so many members from this number on has such a name
abbrev pub some_barred : Members → List ℕ → ℕ → ℕ → Bool
some_barred resources g i zero = false
some_barred resources g i (suc n) = is_barred resources (member_name g i) || some_barred resources g (i + 1) n

-- G02 of the first group, among these, that has it
abbrev pub misnamed_group : Members → Members → Members → Option GroupFlaw
misnamed_group bound resources no_members = None
misnamed_group bound resources (member k d ms) =
    if is_group d && some_barred resources k 0 (count_of bound (props_of d)) then Some (deeper (Key k) (wrong G02))
    else misnamed_group bound resources ms

-- ---- all

-- G01, then G02, of a template's resources
abbrev pub resources_flaw : Members → Members → Option GroupFlaw
resources_flaw bound resources = under (Key (codes "resources"))
    (option_or (unfit_group bound 0 resources) (misnamed_group bound resources resources))

-- the flaw that ends a sum
abbrev pub flaw_of : Sum → Option GroupFlaw
flaw_of (Ok t) = None
flaw_of (Err f) = Some f

-- the first of G01, G02 and G03 in a template
abbrev pub groups_flaw : Members → Members → Option GroupFlaw
groups_flaw bound template =
    option_or (resources_flaw bound (entries (codes "resources") template)) (flaw_of (template_sum bound template))

-- the first flaw of a template's groups, or want of memory
abbrev pub IsFaultOf : Members → Members → GroupFault → Type 0
IsFaultOf bound template (Wrong f) = groups_flaw bound template ≡ Some f
IsFaultOf bound template Memory = ⊤
