-- The form of a group's properties: the first key in byte order at which they are off it, else what is missing.
use Rattle.std.specs.Prelude.{ℕ, List, [], ◌∷◌, Bool, false, not, ◌&&◌, ◌||◌, ◌==◌, length, Option, Some}
use Rattle.std.specs.Prelude.{is_some, bytes_eq, codes, if◌then◌else◌}
use Rattle.std.specs.Option.{option_or}
use Rattle.heat_value.specs.Data.{Data, null, flag, whole, words, items, fields, Members, lookup}
use Rattle.hot_forms.specs.Checks.{is_among}
use Rattle.hot_forms.specs.Shapes.{is_text, is_null, is_object}
use Rattle.hot_tree.specs.Readings.{text_or}
use Rattle.hot_env.specs.Applied.{group_kind}
use Rattle.hot_groups.specs.Codes.{wrong, unless, first_entry}
use Rattle.hot_groups.specs.Groups.{counted}
use Rattle.hot_groups.specs.declared.code.GroupCode.TheVariants.{G01}
use Rattle.hot_groups.specs.declared.flaw.GroupFlaw.{GroupFlaw}

-- a text that isn't empty
abbrev pub is_index_var : Data → Bool
is_index_var null = false
is_index_var (flag b) = false
is_index_var (whole z) = false
is_index_var (words s) = not (length s == 0)
is_index_var (items ns) = false
is_index_var (fields ms) = false

-- a type that members may have: any text but the type of groups
abbrev pub is_inner_type : Data → Bool
is_inner_type d = is_text d && not (bytes_eq (text_or (codes "") (Some d)) group_kind)

-- a key of a definition: `type`; `metadata` and `properties` are objects or null, as those of a resource
abbrev pub unfit_part : List ℕ → Data → Option GroupFlaw
unfit_part k d =
    if bytes_eq k (codes "type") then unless (is_inner_type d) G01
    else unless (is_among (codes "metadata" ∷ codes "properties" ∷ []) k && (is_object d || is_null d)) G01

-- the first key of a definition that is off its form, else that it has no type
abbrev pub unfit_parts : Members → Option GroupFlaw
unfit_parts ms = option_or (first_entry unfit_part ms) (unless (is_some (lookup (codes "type") ms)) G01)

-- a definition: an object
abbrev pub unfit_def : Data → Option GroupFlaw
unfit_def null = Some (wrong G01)
unfit_def (flag b) = Some (wrong G01)
unfit_def (whole z) = Some (wrong G01)
unfit_def (words s) = Some (wrong G01)
unfit_def (items ns) = Some (wrong G01)
unfit_def (fields ms) = unfit_parts ms

-- a key of a group's properties
abbrev pub unfit : Members → List ℕ → Data → Option GroupFlaw
unfit bound k d =
    if bytes_eq k (codes "count") then unless (is_some (counted bound d)) G01 else (
    if bytes_eq k (codes "index_var") then unless (is_index_var d) G01 else (
    if bytes_eq k (codes "resource_def") then unfit_def d else Some (wrong G01)))

-- the first key that is off its form, else that there is no definition
abbrev pub form_flaw : Members → Members → Option GroupFlaw
form_flaw bound props =
    option_or (first_entry (unfit bound) props) (unless (is_some (lookup (codes "resource_def") props)) G01)
