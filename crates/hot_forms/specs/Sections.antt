-- A template's sections, by themselves.
use Rattle.std.specs.Prelude.{ℕ, List, [], ◌∷◌, Bool, false, Option, Some, None, is_some, not, codes, if◌then◌else◌}
use Rattle.heat_value.specs.Data.{Data, null, flag, whole, words, items, fields, Members, lookup}
use Rattle.heat_value.specs.declared.path.Step.TheVariants.{Key}
use Rattle.hot_forms.specs.Checks.{wrong, under, first_of, unless, is_among, unknown_key}
use Rattle.hot_forms.specs.Shapes.{unshaped}
use Rattle.hot_forms.specs.declared.code.HotCode.TheVariants.{H02, H03, H04, H05, H06}
use Rattle.hot_forms.specs.declared.flaw.Flaw.{Flaw}
use Rattle.hot_forms.specs.declared.shape.Shape.{Shape}
use Rattle.hot_forms.specs.declared.shape.Shape.TheVariants as shape

-- a section whose value is null counts as absent
abbrev pub unless_null : Option Data → Option Data
unless_null None = None
unless_null (Some null) = None
unless_null (Some (flag b)) = Some (flag b)
unless_null (Some (whole z)) = Some (whole z)
unless_null (Some (words s)) = Some (words s)
unless_null (Some (items ns)) = Some (items ns)
unless_null (Some (fields ms)) = Some (fields ms)

-- what a section holds, if it is there
abbrev pub section : List ℕ → Members → Option Data
section k ms = unless_null (lookup k ms)

-- the sections, in byte order of their names
abbrev pub sections : List (List ℕ)
sections =
    codes "conditions" ∷ codes "description" ∷ codes "heat_template_version" ∷ codes "outputs"
    ∷ codes "parameter_groups" ∷ codes "parameters" ∷ codes "resources" ∷ []

-- the versions, by their dates and names
abbrev pub versions : List (List ℕ)
versions =
    codes "2013-05-23" ∷ codes "2014-10-16" ∷ codes "2015-04-30" ∷ codes "2015-10-15" ∷ codes "2016-04-08"
    ∷ codes "2016-10-14" ∷ codes "newton" ∷ codes "2017-02-24" ∷ codes "ocata" ∷ codes "2017-09-01" ∷ codes "pike"
    ∷ codes "2018-03-02" ∷ codes "queens" ∷ codes "2018-08-31" ∷ codes "rocky" ∷ []

-- a key stands that another language's templates have, whatever its value
abbrev pub foreign_key : List ℕ → Members → Option Flaw
foreign_key k ms = under (Key k) (unless (not (is_some (lookup k ms))) H03)

-- H03: `AWSTemplateFormatVersion` or `HeatTemplateFormatVersion` stands
abbrev pub of_another_language : Members → Option Flaw
of_another_language ms =
    first_of (
    foreign_key (codes "AWSTemplateFormatVersion") ms
    ∷ foreign_key (codes "HeatTemplateFormatVersion") ms ∷ [])

-- H02: the version is missing or null
abbrev pub without_version : Members → Option Flaw
without_version ms = unless (is_some (section (codes "heat_template_version") ms)) H02

-- a text that is a version
abbrev pub is_version : Data → Bool
is_version null = false
is_version (flag b) = false
is_version (whole z) = false
is_version (words s) = is_among versions s
is_version (items ns) = false
is_version (fields ms) = false

abbrev pub unlisted : Option Data → Option Flaw
unlisted None = None
unlisted (Some d) = unless (is_version d) H04

-- H04: the version is none of the list
abbrev pub of_unknown_version : Members → Option Flaw
of_unknown_version ms =
    under (Key (codes "heat_template_version")) (unlisted (section (codes "heat_template_version") ms))

-- H05: the first section in byte order that is unknown, also where it is null
abbrev pub with_unknown_section : Members → Option Flaw
with_unknown_section ms = unknown_key H05 sections ms

-- a section that is there has another shape
abbrev pub misshapen_section : List ℕ → Shape → Members → Option Flaw
misshapen_section k s ms = under (Key k) (unshaped H06 s (section k ms))

-- H06: the first section, in the order of the language, that has another shape than it has to
abbrev pub with_misshapen_section : Members → Option Flaw
with_misshapen_section ms = first_of (
    misshapen_section (codes "description") shape.Text ms
    ∷ misshapen_section (codes "parameter_groups") shape.List ms
    ∷ misshapen_section (codes "parameters") shape.Object ms
    ∷ misshapen_section (codes "conditions") shape.Object ms
    ∷ misshapen_section (codes "resources") shape.Object ms
    ∷ misshapen_section (codes "outputs") shape.Object ms ∷ [])

-- H03, H02, H04, H05, H06, in this order
abbrev pub sections_flaw : Members → Option Flaw
sections_flaw ms = first_of (
    of_another_language ms
    ∷ without_version ms
    ∷ of_unknown_version ms
    ∷ with_unknown_section ms
    ∷ with_misshapen_section ms ∷ [])
