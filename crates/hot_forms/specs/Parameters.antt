-- One parameter by itself.
use Rattle.std.specs.Prelude.{ℕ, List, [], ◌∷◌, Bool, Option, Some, None, is_some, bytes_eq, codes, if◌then◌else◌}
use Rattle.heat_value.specs.Data.{Data, null, flag, whole, words, items, fields, Nodes, no_nodes, Members, lookup}
use Rattle.heat_value.specs.declared.path.Step.TheVariants.{Key}
use Rattle.hot_forms.specs.Checks.{wrong, under, first_of, unless, unknown_key}
use Rattle.hot_forms.specs.Constraints.{is_constraint_list, constraints_flaw}
use Rattle.hot_forms.specs.Names.{misnamed}
use Rattle.hot_forms.specs.Shapes.{misshapen}
use Rattle.hot_forms.specs.declared.code.HotCode.TheVariants.{H08, H09, H10, H11}
use Rattle.hot_forms.specs.declared.flaw.Flaw.{Flaw}
use Rattle.hot_forms.specs.declared.shape.Shape.TheVariants as shape
use Rattle.hot_forms.specs.declared.sort.Sort.{Sort}
use Rattle.hot_forms.specs.declared.sort.Sort.TheVariants as sort

-- the keys of a parameter, in byte order
abbrev pub parameter_keys : List (List ℕ)
parameter_keys =
    codes "constraints" ∷ codes "default" ∷ codes "description" ∷ codes "hidden" ∷ codes "immutable" ∷ codes "label"
    ∷ codes "tags" ∷ codes "type" ∷ []

-- the type that a text names
abbrev pub sort_named : List ℕ → Option Sort
sort_named s =
    if bytes_eq s (codes "string") then Some sort.Words else (
    if bytes_eq s (codes "number") then Some sort.Number else (
    if bytes_eq s (codes "boolean") then Some sort.Flag else (
    if bytes_eq s (codes "json") then Some sort.Json else (
    if bytes_eq s (codes "comma_delimited_list") then Some sort.List else None))))

-- the type that stands there
abbrev pub sort_in : Option Data → Option Sort
sort_in None = None
sort_in (Some null) = None
sort_in (Some (flag b)) = None
sort_in (Some (whole z)) = None
sort_in (Some (words s)) = sort_named s
sort_in (Some (items ns)) = None
sort_in (Some (fields ms)) = None

-- a missing type is wrong at the parameter, one that is none of the five where it stands
abbrev pub untyped : Option Data → Option Flaw
untyped None = Some (wrong H09)
untyped (Some d) = under (Key (codes "type")) (unless (is_some (sort_in (Some d))) H09)

-- H09: its type is missing or none of the five
abbrev pub with_no_sort : Members → Option Flaw
with_no_sort ms = untyped (lookup (codes "type") ms)

-- H10: of the first key in byte order, the value has another shape
abbrev pub with_wrong_words : Members → Option Flaw
with_wrong_words ms = first_of (
    misshapen H10 (codes "description") shape.Text ms
    ∷ misshapen H10 (codes "hidden") shape.Flag ms
    ∷ misshapen H10 (codes "immutable") shape.Flag ms
    ∷ misshapen H10 (codes "label") shape.Text ms
    ∷ misshapen H10 (codes "tags") shape.Texts ms ∷ [])

abbrev pub unlisted_constraints : Option Data → Option Flaw
unlisted_constraints None = None
unlisted_constraints (Some d) = unless (is_constraint_list d) H11

-- H11: `constraints` is no list of constraints
abbrev pub with_no_constraints : Members → Option Flaw
with_no_constraints ms = under (Key (codes "constraints")) (unlisted_constraints (lookup (codes "constraints") ms))

-- the values of a list; nothing where there is none
abbrev pub nodes_in : Option Data → Nodes
nodes_in None = no_nodes
nodes_in (Some null) = no_nodes
nodes_in (Some (flag b)) = no_nodes
nodes_in (Some (whole z)) = no_nodes
nodes_in (Some (words s)) = no_nodes
nodes_in (Some (items ns)) = ns
nodes_in (Some (fields ms)) = no_nodes

abbrev pub unsuited : Option Sort → Nodes → Option Flaw
unsuited None ns = None
unsuited (Some s) ns = constraints_flaw s 0 ns

-- H12: a constraint's argument is wrong, or doesn't suit the type
abbrev pub with_wrong_constraint : Members → Option Flaw
with_wrong_constraint ms = under (Key (codes "constraints"))
    (unsuited (sort_in (lookup (codes "type") ms)) (nodes_in (lookup (codes "constraints") ms)))

-- H08 to H12 of an object, in this order
abbrev pub parts_flaw : Members → Option Flaw
parts_flaw ms = first_of (
    unknown_key H08 parameter_keys ms
    ∷ with_no_sort ms
    ∷ with_wrong_words ms
    ∷ with_no_constraints ms
    ∷ with_wrong_constraint ms ∷ [])

-- a parameter's value; H08 where it isn't an object
abbrev pub described : Data → Option Flaw
described null = Some (wrong H08)
described (flag b) = Some (wrong H08)
described (whole z) = Some (wrong H08)
described (words s) = Some (wrong H08)
described (items ns) = Some (wrong H08)
described (fields ms) = parts_flaw ms

-- H07 to H12 of a parameter under its name
abbrev pub parameter_flaw : List ℕ → Data → Option Flaw
parameter_flaw name d = first_of (misnamed name ∷ described d ∷ [])
