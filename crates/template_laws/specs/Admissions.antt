-- What was admitted is in its form, and faults by no form.
use Rattle.std.specs.Prelude.{◌≡◌, ◌≤◌, List, Contains}
use Rattle.heat_plan.specs.Plans.{PlanData}
use Rattle.heat_plan.specs.declared.facts.KnownFacts.{KnownFacts}
use Rattle.heat_plan.specs.declared.item.Item.{Item}
use Rattle.heat_plan.specs.declared.plan.Output.{Output}
use Rattle.heat_value.specs.Data.{depth, fields, Members, Rises}
use Rattle.heat_value.specs.declared.path.Step.{Step}
use Rattle.hot_admit.specs.Admission.{IsAdmitted}
use Rattle.hot_admit.specs.Plans.{Given}
use Rattle.hot_admit.specs.Resources.{conditions_in}
use Rattle.eval_words.specs.Outcomes.{Faults}
use Rattle.eval_words.specs.Resolutions.{eval, resolve}
use Rattle.eval_words.specs.Scenes.{scene_of}
use Rattle.eval_words.specs.declared.code.FaultCode.{FaultCode}
use Rattle.hot_params.specs.Bound.{IsBoundTo}
use Rattle.hot_params.specs.declared.ids.Ids.{Ids}
use Rattle.type_catalog.specs.declared.custom.NamedTest.{NamedTest}
use Rattle.hot_tree.specs.Template.{IsRight}
use Rattle.template_laws.specs.Faulting.{MayFault}
use Rattle.template_laws.specs.Faults.{IsPropertyFault}
use Rattle.template_laws.specs.Formed.{IsFormed}
use Rattle.template_laws.specs.Roles.{as_value, as_parts}

-- ---- what was admitted

-- the names of a template's conditions rise, as the keys of each map of a value do
abbrev pub HasRisingConditions : Members → Type 0
HasRisingConditions template = Rises (conditions_in template)

-- the template is right, its parameters are bound, and with them it was admitted as this plan
pub record WasAdmitted (template : Members) (given : Given) (plan : PlanData) : Type 0 where
  pub rising : HasRisingConditions template
  pub right : IsRight template
  pub tests : List NamedTest
  pub ids : Ids
  pub params : Members
  pub bound : IsBoundTo tests ids template params given.params
  pub admitted : IsAdmitted template given plan

-- ---- what holds of its plan

-- each item's properties and each output's value are in their form, whatever is known
pub record IsPlanFormed (plan : PlanData) (known : List KnownFacts) : Type 0 where
  pub items : (item : Item) → Contains plan.items item
      → IsFormed (scene_of plan known) as_parts (fields item.props)
  pub outputs : (output : Output) → Contains plan.outputs output → IsFormed (scene_of plan known) as_value output.value

-- each fault of an item's properties or an output's value that nest at most 64 deep comes of what arguments were evaluated
-- to, or stands in what a repeat replaced
pub record FaultsByNoForm (plan : PlanData) (known : List KnownFacts) : Type 0 where
  pub items : (item : Item) → Contains plan.items item → (c : FaultCode) (path : List Step)
      → depth (fields item.props) ≤ 64 → resolve plan item known ≡ Faults c path → IsPropertyFault item c path
  pub outputs : (output : Output) → Contains plan.outputs output → (c : FaultCode) (path : List Step)
      → depth output.value ≤ 64 → eval (scene_of plan known) output.value ≡ Faults c path → MayFault as_value output.value c path

abbrev pub AdmittedIsFormed : Type 0
AdmittedIsFormed = (template : Members) (given : Given) (plan : PlanData) → WasAdmitted template given plan
    → (known : List KnownFacts) → IsPlanFormed plan known

abbrev pub AdmittedFaultsByNoForm : Type 0
AdmittedFaultsByNoForm = (template : Members) (given : Given) (plan : PlanData) → WasAdmitted template given plan
    → (known : List KnownFacts) → FaultsByNoForm plan known
