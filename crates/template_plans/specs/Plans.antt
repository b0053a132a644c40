-- The plan of a body, and why a body has none: the first fault of its template by itself, of its parameters, and of
-- what the template says, in this order.
use Rattle.std.specs.Prelude.{◌≡◌, List, Some}
use Rattle.heat_plan.specs.Plans.{PlanData}
use Rattle.heat_value.specs.Data.{Members}
use Rattle.hot_admit.specs.Admission.{IsAdmitted, IsRefused}
use Rattle.hot_admit.specs.Plans.{Given}
use Rattle.hot_admit.specs.declared.fault.AdmitFlaw.{AdmitFlaw}
use Rattle.hot_catalog.specs.Catalogs.{standing}
use Rattle.hot_catalog.specs.declared.catalog.Catalog.{Catalog}
use Rattle.hot_forms.specs.declared.flaw.Flaw.{Flaw}
use Rattle.hot_params.specs.Bound.{IsBoundTo, IsFaultOf}
use Rattle.hot_params.specs.declared.fault.ParamFault.TheVariants.{Wrong}
use Rattle.hot_params.specs.declared.fault.ParamFlaw.{ParamFlaw}
use Rattle.hot_params.specs.declared.ids.Ids.{Ids}
use Rattle.type_catalog.specs.declared.custom.NamedTest.{NamedTest}
use Rattle.type_catalog.specs.declared.kind.KindDef.{KindDef}
use Rattle.hot_tree.specs.Template.{IsTemplateOf}
use Rattle.hot_tree.specs.Whole.{template_flaw}
use Rattle.script_lines.specs.Requested.{BodyData}
use Rattle.template_plans.specs.declared.fault.PlanFault.{PlanFault}
use Rattle.template_plans.specs.declared.fault.PlanFault.TheVariants.{Template, Parameters, Admission}

-- what stands beside a body: whose plan it is, the tests that are registered, and the kinds that stand
pub record Beside : Type 0 where
  pub ids : Ids
  pub tests : List NamedTest
  pub kinds : List KindDef

abbrev pub beside : Ids → List NamedTest → Catalog → Beside
beside ids tests catalog = record { ids = ids; tests = tests; kinds = standing catalog }

-- what is given with the body's template, once its parameters are bound
abbrev pub given_with : BodyData → Beside → Members → Given
given_with body it bound = record { params = bound; files = body.files; kinds = it.kinds }

-- the body's template is right, its parameters have values, and it is admitted as the plan
pub record IsPlanOf (body : BodyData) (it : Beside) (plan : PlanData) : Type 0 where
  pub template : Members
  pub right : IsTemplateOf body.template template
  pub bound : Members
  pub bound_to : IsBoundTo it.tests it.ids template body.params bound
  pub admitted : IsAdmitted template (given_with body it bound) plan

-- the template is wrong by itself, or else a parameter has no value, or else it isn't admitted
pub data IsNoPlan (body : BodyData) (it : Beside) (why : PlanFault) : Type 0 where
  no_template : (f : Flaw) → template_flaw body.template ≡ Some f → why ≡ Template f → IsNoPlan body it why
  unbound : (template : Members) → IsTemplateOf body.template template → (f : ParamFlaw)
      → IsFaultOf it.tests template body.params (Wrong f) → why ≡ Parameters f → IsNoPlan body it why
  not_admitted : (template : Members) → IsTemplateOf body.template template → (bound : Members)
      → IsBoundTo it.tests it.ids template body.params bound → (f : AdmitFlaw)
      → IsRefused template (given_with body it bound) f → why ≡ Admission f → IsNoPlan body it why
