-- A02 and A03: names of resources, files and attributes that aren't there.
use Rattle.std.specs.Prelude.{ℕ, ◌+◌, List, [], ◌∷◌, Bool, false, not, ◌&&◌, ◌||◌, Option, Some, None, is_some}
use Rattle.std.specs.Prelude.{bytes_eq, codes, option_and_then}
use Rattle.std.specs.Option.{option_map_or, option_or}
use Rattle.heat_value.specs.Data.{Data, null, flag, whole, words, items, fields, Nodes, no_nodes, node, Members}
use Rattle.heat_value.specs.Data.{lookup}
use Rattle.heat_value.specs.declared.path.Step.{Step}
use Rattle.heat_value.specs.declared.path.Step.TheVariants.{Key, Index}
use Rattle.hot_admit.specs.Basis.{BasisData, kind_at, resource_named}
use Rattle.hot_admit.specs.Places.{place_in, place_under, place_there}
use Rattle.hot_admit.specs.Resources.{ResourceData, OutputData}
use Rattle.hot_catalog.specs.Paths.{here_unless, behind, first_path}
use Rattle.eval_words.specs.Needs.{referred}
use Rattle.eval_words.specs.Sorts.{text_in, list_in}
use Rattle.hot_forms.specs.Checks.{is_among}
use Rattle.type_catalog.specs.declared.kind.KindDef.{KindDef}

-- ---- A02

-- a get_resource or get_attr that names no resource
abbrev pub is_unknown_resource : List ResourceData → List ℕ → Data → Bool
is_unknown_resource resources k d =
    option_map_or (λ name. not (is_some (resource_named resources name))) (referred (k, d)) false

-- a get_file that names no file
abbrev pub is_unknown_file : Members → List ℕ → Data → Bool
is_unknown_file files k d =
    bytes_eq k (codes "get_file") && option_map_or (λ name. not (is_some (lookup name files))) (text_in d) false

abbrev pub is_unknown_reference : BasisData → List ℕ → Data → Bool
is_unknown_reference basis k d = is_unknown_resource basis.resources k d || is_unknown_file basis.files k d

-- a text that names no resource
abbrev pub unknown_text : List ResourceData → Data → Option (List Step)
unknown_text resources null = None
unknown_text resources (flag b) = None
unknown_text resources (whole z) = None
unknown_text resources (words s) = here_unless (is_some (resource_named resources s))
unknown_text resources (items ns) = None
unknown_text resources (fields ms) = None

-- of a list's values from the place i on the first that names no resource
abbrev pub unknown_among : List ResourceData → ℕ → Nodes → Option (List Step)
unknown_among resources i no_nodes = None
unknown_among resources i (node d ns) =
    option_or (behind (Index i) (unknown_text resources d)) (unknown_among resources (i + 1) ns)

-- the first name in what a resource depends on that names none
abbrev pub unknown_dependency : List ResourceData → Data → Option (List Step)
unknown_dependency resources null = None
unknown_dependency resources (flag b) = None
unknown_dependency resources (whole z) = None
unknown_dependency resources (words s) = unknown_text resources (words s)
unknown_dependency resources (items ns) = unknown_among resources 0 ns
unknown_dependency resources (fields ms) = None

-- the first of a resource: in its condition, its properties, and then in what it depends on
abbrev pub unknown_in_resource : BasisData → ResourceData → Option (List Step)
unknown_in_resource basis r = first_path (
    behind (Key (codes "condition")) (place_there (is_unknown_reference basis) r.condition)
    ∷ behind (Key (codes "properties")) (place_under (is_unknown_reference basis) r.properties)
    ∷ behind (Key (codes "depends_on")) (unknown_dependency basis.resources r.depends_on) ∷ [])

-- the first of an output: in its condition, or its value
abbrev pub unknown_in_output : BasisData → OutputData → Option (List Step)
unknown_in_output basis o = first_path (
    behind (Key (codes "condition")) (place_there (is_unknown_reference basis) o.condition)
    ∷ behind (Key (codes "value")) (place_in (is_unknown_reference basis) o.value) ∷ [])

-- ---- A03

abbrev pub lacks_attribute : List ℕ → Option KindDef → Bool
lacks_attribute attribute None = false
lacks_attribute attribute (Some kind) = not (is_among kind.attrs attribute)

-- the attribute isn't one of the kind of the resource of this name; nothing is said where there is no such kind
abbrev pub is_no_attribute : BasisData → List ℕ → List ℕ → Bool
is_no_attribute basis name attribute =
    lacks_attribute attribute (option_and_then (kind_at basis) (resource_named basis.resources name))

abbrev pub both_texts : Option (List ℕ) → Option (List ℕ) → Option (List ℕ × List ℕ)
both_texts None o = None
both_texts (Some s) None = None
both_texts (Some s) (Some t) = Some (s, t)

abbrev pub two_texts : Nodes → Option (List ℕ × List ℕ)
two_texts no_nodes = None
two_texts (node d no_nodes) = None
two_texts (node d (node e ns)) = both_texts (text_in d) (text_in e)

-- the first of a list and the second, where both are texts
abbrev pub first_two_texts : Data → Option (List ℕ × List ℕ)
first_two_texts a = option_and_then two_texts (list_in a)

-- a get_attr whose attribute isn't one of the kind
abbrev pub is_unknown_attribute : BasisData → List ℕ → Data → Bool
is_unknown_attribute basis k d =
    bytes_eq k (codes "get_attr") && option_map_or (λ p. is_no_attribute basis p.0 p.1) (first_two_texts d) false

-- the first in a resource's properties
abbrev pub unknown_attribute_in_resource : BasisData → ResourceData → Option (List Step)
unknown_attribute_in_resource basis r =
    behind (Key (codes "properties")) (place_under (is_unknown_attribute basis) r.properties)

-- the first in an output's value
abbrev pub unknown_attribute_in_output : BasisData → OutputData → Option (List Step)
unknown_attribute_in_output basis o = behind (Key (codes "value")) (place_in (is_unknown_attribute basis) o.value)
