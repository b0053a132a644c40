-- What is wrong with resources and outputs, codes by the stated order.
use Rattle.std.specs.Prelude.{ℕ, List, [], ◌∷◌, Option, length, nat_le, codes}
use Rattle.heat_value.specs.declared.path.Step.{Step}
use Rattle.heat_value.specs.declared.path.Step.TheVariants.{Key}
use Rattle.hot_admit.specs.Basis.{BasisData}
use Rattle.hot_admit.specs.Codes.{told, first_of, first_refused}
use Rattle.hot_admit.specs.Kinds.{of_unknown_kind, with_unknown_property, without_property}
use Rattle.hot_admit.specs.References.{unknown_in_resource, unknown_in_output}
use Rattle.hot_admit.specs.References.{unknown_attribute_in_resource, unknown_attribute_in_output}
use Rattle.hot_admit.specs.Resources.{ResourceData, OutputData}
use Rattle.hot_admit.specs.Unsupported.{unsupported_in_resource, unsupported_in_output}
use Rattle.hot_admit.specs.declared.code.AdmitCode.TheVariants.{A01, A02, A03, A05, A06, A07, A08}
use Rattle.hot_admit.specs.declared.fault.AdmitFlaw.{AdmitFlaw}
use Rattle.hot_catalog.specs.Paths.{here_unless, behind}

-- seen from the template's root
abbrev pub in_entry : List ℕ → List ℕ → Option (List Step) → Option (List Step)
in_entry section name o = behind (Key section) (behind (Key name) o)

abbrev pub in_resource : ResourceData → Option (List Step) → Option (List Step)
in_resource r = in_entry (codes "resources") r.name

abbrev pub in_output : OutputData → Option (List Step) → Option (List Step)
in_output o = in_entry (codes "outputs") o.name

-- A01, A08, A05, A06, A02 and A03 of a resource, in this order
abbrev pub resource_flaw : BasisData → ResourceData → Option AdmitFlaw
resource_flaw basis r = first_of (
    told A01 (in_resource r (of_unknown_kind basis r))
    ∷ told A08 (in_resource r (unsupported_in_resource r))
    ∷ told A05 (in_resource r (with_unknown_property basis r))
    ∷ told A06 (in_resource r (without_property basis r))
    ∷ told A02 (in_resource r (unknown_in_resource basis r))
    ∷ told A03 (in_resource r (unknown_attribute_in_resource basis r)) ∷ [])

-- A08, A02 and A03 of an output, in this order
abbrev pub output_flaw : BasisData → OutputData → Option AdmitFlaw
output_flaw basis o = first_of (
    told A08 (in_output o (unsupported_in_output o))
    ∷ told A02 (in_output o (unknown_in_output basis o))
    ∷ told A03 (in_output o (unknown_attribute_in_output basis o)) ∷ [])

-- how many resources a template may have
abbrev pub most_resources : ℕ
most_resources = 1000

-- A07: there are more resources
abbrev pub with_many_resources : List ResourceData → Option AdmitFlaw
with_many_resources resources =
    told A07 (behind (Key (codes "resources")) (here_unless (nat_le (length resources) most_resources)))

-- A07, then each resource, then each output; whatever their conditions say
abbrev pub entries_flaw : BasisData → List OutputData → Option AdmitFlaw
entries_flaw basis outputs = first_of (
    with_many_resources basis.resources
    ∷ first_refused (resource_flaw basis) basis.resources
    ∷ first_refused (output_flaw basis) outputs ∷ [])
