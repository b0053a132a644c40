-- A fault of each layer as why a body has no plan.
use Rattle.std.proofs.Common.{◌≡◌, ◌≢◌, subst, refl}
use Rattle.heat_value.specs.Data.{Data, Members}
use Rattle.hot_admit.specs.Faults.{IsAdmitFaultOf}
use Rattle.hot_admit.specs.declared.fault.AdmitFault.{AdmitFault}
use Rattle.hot_admit.specs.declared.fault.AdmitFault.TheVariants as admit
use Rattle.hot_params.specs.Bound as binding
use Rattle.hot_params.specs.Bound.{IsBoundTo}
use Rattle.hot_params.specs.declared.fault.ParamFault.{ParamFault}
use Rattle.hot_params.specs.declared.fault.ParamFault.TheVariants as param
use Rattle.hot_tree.specs.Template as tree
use Rattle.hot_tree.specs.Template.{IsTemplateOf}
use Rattle.hot_tree.specs.declared.fault.HotFault.{HotFault}
use Rattle.hot_tree.specs.declared.fault.HotFault.TheVariants as hot
use Rattle.script_lines.specs.Requested.{BodyData}
use Rattle.template_plans.specs.Faults.{of_template, of_parameters, of_admission}
use Rattle.template_plans.specs.Plans.{Beside, given_with, IsNoPlan, no_template, unbound, not_admitted}
use Rattle.template_plans.specs.declared.fault.PlanFault.{PlanFault}
use Rattle.template_plans.specs.declared.fault.PlanFault.TheVariants.{Memory}

module _ (body : BodyData) (it : Beside) where
  flawed_here : (h : HotFault) → of_template h ≢ Memory → tree.IsFaultOf body.template h
      → IsNoPlan body it (of_template h)
  flawed_here (hot.Wrong f) other wrong = no_template f wrong refl
  flawed_here hot.Memory other wrong = absurd (other refl)

  unvalued_here : (template : Members) → IsTemplateOf body.template template → (p : ParamFault)
      → of_parameters p ≢ Memory → binding.IsFaultOf it.tests template body.params p
      → IsNoPlan body it (of_parameters p)
  unvalued_here template right (param.Wrong f) other wrong = unbound template right f wrong refl
  unvalued_here template right param.Memory other wrong = absurd (other refl)

  refused_here : (template bound : Members) → IsTemplateOf body.template template
      → IsBoundTo it.tests it.ids template body.params bound → (a : AdmitFault) → of_admission a ≢ Memory
      → IsAdmitFaultOf template (given_with body it bound) a → IsNoPlan body it (of_admission a)
  refused_here template bound right bound_to (admit.Wrong f) other wrong =
      not_admitted template right bound bound_to f wrong refl
  refused_here template bound right bound_to admit.Memory other wrong = absurd (other refl)

  -- the value read is the body's template
  module _ (d : Data) (same : d ≡ body.template) where
    -- the template has a flaw
    pub flawed : (h : HotFault) → of_template h ≢ Memory → tree.IsFaultOf d h → IsNoPlan body it (of_template h)
    flawed h other wrong = flawed_here h other (subst (λ (x : Data). tree.IsFaultOf x h) same wrong)

    -- what is bound is what the body gives
    module _ (given : Members) (given_is : given ≡ body.params) (template : Members)
        (right : IsTemplateOf d template) where
      right_here : IsTemplateOf body.template template
      right_here = subst (λ (x : Data). IsTemplateOf x template) same right

      -- a parameter has no value
      pub unvalued : (p : ParamFault) → of_parameters p ≢ Memory → binding.IsFaultOf it.tests template given p
          → IsNoPlan body it (of_parameters p)
      unvalued p other wrong = unvalued_here template right_here p other
          (subst (λ (ms : Members). binding.IsFaultOf it.tests template ms p) given_is wrong)

      -- it isn't admitted
      pub refused : (bound : Members) → IsBoundTo it.tests it.ids template given bound → (files : Members)
          → files ≡ body.files → (a : AdmitFault) → of_admission a ≢ Memory
          → IsAdmitFaultOf template (record { params = bound; files = files; kinds = it.kinds }) a
          → IsNoPlan body it (of_admission a)
      refused bound bound_to files files_are a other wrong = refused_here template bound right_here
          (subst (λ (ms : Members). IsBoundTo it.tests it.ids template ms bound) given_is bound_to) a other
          (subst (λ (fs : Members). IsAdmitFaultOf template
          (record { params = bound; files = fs; kinds = it.kinds }) a) files_are wrong)
