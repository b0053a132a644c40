-- A whole template: H01 to H24, in the stated order.
use Rattle.std.specs.Prelude.{ℕ, List, [], ◌∷◌, Option, Some, None, codes}
use Rattle.heat_value.specs.Data.{Data, null, flag, whole, words, items, fields, Members}
use Rattle.heat_value.specs.declared.path.Step.TheVariants.{Key}
use Rattle.hot_forms.specs.Checks.{wrong, under, first_of, first_entry}
use Rattle.hot_forms.specs.Parameters.{parameter_flaw}
use Rattle.hot_forms.specs.Sections.{section, sections_flaw}
use Rattle.hot_forms.specs.declared.code.HotCode.TheVariants.{H01}
use Rattle.hot_forms.specs.declared.flaw.Flaw.{Flaw}
use Rattle.hot_tree.specs.Entries.{condition_flaw, resource_flaw, output_flaw}
use Rattle.hot_tree.specs.Functions.{members_there, condition_functions, resource_functions, output_functions}

-- the entries of a section; an absent one has none
abbrev pub entries : List ℕ → Members → Members
entries k ms = members_there (section k ms)

-- the first entry of a section, in byte order of names, that a check refuses
abbrev pub in_section : List ℕ → (List ℕ → Data → Option Flaw) → Members → Option Flaw
in_section k check ms = under (Key k) (first_entry check (entries k ms))

-- H07 to H21 and H23: each parameter, each condition, each resource, each output
abbrev pub entries_flaw : Members → Option Flaw
entries_flaw ms = first_of (
    in_section (codes "parameters") parameter_flaw ms
    ∷ in_section (codes "conditions") condition_flaw ms
    ∷ in_section (codes "resources") resource_flaw ms
    ∷ in_section (codes "outputs") output_flaw ms ∷ [])

-- H22 and H24 at the first place, in reading order, where either holds, among these parameters and conditions
abbrev pub functions_flaw_among : Members → Members → Members → Option Flaw
functions_flaw_among params conds ms = first_of (
    in_section (codes "conditions") (λ name d. condition_functions params conds d) ms
    ∷ in_section (codes "resources") (λ name d. resource_functions params conds d) ms
    ∷ in_section (codes "outputs") (λ name d. output_functions params conds d) ms ∷ [])

abbrev pub functions_flaw : Members → Option Flaw
functions_flaw ms = functions_flaw_among (entries (codes "parameters") ms) (entries (codes "conditions") ms) ms

-- H02 to H24 of an object
abbrev pub object_flaw : Members → Option Flaw
object_flaw ms = first_of (sections_flaw ms ∷ entries_flaw ms ∷ functions_flaw ms ∷ [])

-- the first of H01 to H24 in a template, in the stated order
abbrev pub template_flaw : Data → Option Flaw
template_flaw null = Some (wrong H01)
template_flaw (flag b) = Some (wrong H01)
template_flaw (whole z) = Some (wrong H01)
template_flaw (words s) = Some (wrong H01)
template_flaw (items ns) = Some (wrong H01)
template_flaw (fields ms) = object_flaw ms
