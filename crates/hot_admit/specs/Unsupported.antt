-- A08: what the language has and no plan can.
use Rattle.std.specs.Prelude.{ℕ, List, [], ◌∷◌, Bool, true, false, not, ◌&&◌, ◌||◌, Option, is_some, bytes_eq}
use Rattle.std.specs.Prelude.{nat_eq, codes}
use Rattle.std.specs.List.{starts_with}
use Rattle.heat_value.specs.Data.{Data, Members, no_members, member}
use Rattle.heat_value.specs.declared.path.Step.{Step}
use Rattle.heat_value.specs.declared.path.Step.TheVariants.{Key}
use Rattle.hot_admit.specs.Places.{place_in, place_under, place_there}
use Rattle.hot_admit.specs.Resources.{ResourceData, OutputData}
use Rattle.hot_catalog.specs.Paths.{here_unless, behind, first_path}
use Rattle.hot_forms.specs.Checks.{is_among}
use Rattle.hot_forms.specs.Shapes.{members_in}
use Rattle.hot_functions.specs.Forms.{stands}

-- a function that is left out, by its name
abbrev pub is_left_out : List ℕ → Bool
is_left_out k =
    is_among (codes "yaql" ∷ codes "make_url" ∷ codes "resource_facade" ∷ codes "str_replace_vstrict" ∷ []) k
    || starts_with nat_eq k (codes "Fn::")

-- a function that is left out, or a repeat with `permutations`, whatever stands under that key
abbrev pub is_unsupported : List ℕ → Data → Bool
is_unsupported k d = is_left_out k || (bytes_eq k (codes "repeat") && stands (codes "permutations") (members_in d))

-- `Snapshot`, as spelled in the language or in lower case
abbrev pub is_snapshot : List ℕ → Bool
is_snapshot s = is_among (codes "Snapshot" ∷ codes "snapshot" ∷ []) s

abbrev pub is_empty : Members → Bool
is_empty no_members = true
is_empty (member k d ms) = false

-- the first of a resource, by its keys in byte order: in its condition, its policy, an external id, null too, in its
-- properties, or an update policy
abbrev pub unsupported_in_resource : ResourceData → Option (List Step)
unsupported_in_resource r = first_path (
    behind (Key (codes "condition")) (place_there is_unsupported r.condition)
    ∷ behind (Key (codes "deletion_policy")) (here_unless (not (is_snapshot r.policy)))
    ∷ behind (Key (codes "external_id")) (here_unless (not (is_some r.external_id)))
    ∷ behind (Key (codes "properties")) (place_under is_unsupported r.properties)
    ∷ behind (Key (codes "update_policy")) (here_unless (is_empty r.update_policy)) ∷ [])

-- the first of an output: in its condition, or its value
abbrev pub unsupported_in_output : OutputData → Option (List Step)
unsupported_in_output o = first_path (
    behind (Key (codes "condition")) (place_there is_unsupported o.condition)
    ∷ behind (Key (codes "value")) (place_in is_unsupported o.value) ∷ [])
