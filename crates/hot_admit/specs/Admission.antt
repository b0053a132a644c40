-- A template is admitted, as a plan, or refused, for its first fault.
use Rattle.std.specs.Prelude.{◌≡◌, List, Option, Some, None}
use Rattle.dep_graph.specs.Paths.{IsAcyclic}
use Rattle.heat_plan.specs.Plans.{PlanData}
use Rattle.heat_value.specs.Data.{Members}
use Rattle.heat_value.specs.declared.path.Step.{Step}
use Rattle.hot_admit.specs.Codes.{flaw_at}
use Rattle.hot_admit.specs.Conds.{HaveValues, IsCyclePath, IsUnvaluedPath}
use Rattle.hot_admit.specs.Cycles.{IsCycleOf}
use Rattle.hot_admit.specs.Entries.{entries_flaw}
use Rattle.hot_admit.specs.Plans.{Given, basis_of, items_in, plan_in}
use Rattle.hot_admit.specs.Resources.{outputs_in}
use Rattle.hot_admit.specs.declared.code.AdmitCode.TheVariants.{C01, C02, A04}
use Rattle.hot_admit.specs.declared.fault.AdmitFlaw.{AdmitFlaw}
use Rattle.traversal_graph.specs.Relations.{IsNeeded}

-- A07, A01, A08, A05, A06, A02 and A03, in the stated order
abbrev pub own_flaw : Members → Given → Option AdmitFlaw
own_flaw template given = entries_flaw (basis_of template given) (outputs_in template)

-- each condition has a value, nothing is wrong with resources and outputs, needs have no cycle, and this is the plan
pub record IsAdmitted (template : Members) (given : Given) (plan : PlanData) : Type 0 where
  pub values : HaveValues given.params template
  pub right : own_flaw template given ≡ None
  pub acyclic : IsAcyclic (IsNeeded (items_in template given))
  pub made : plan ≡ plan_in template given

-- conditions are on a cycle; else one has no value; else something is wrong with resources or outputs; else needs have
-- a cycle
pub data IsRefused (template : Members) (given : Given) (f : AdmitFlaw) : Type 0 where
  cyclic_conditions : (path : List Step) → IsCyclePath template path → f ≡ flaw_at C01 path → IsRefused template given f
  no_value : (path : List Step) → IsUnvaluedPath given.params template path → f ≡ flaw_at C02 path
      → IsRefused template given f
  wrong : HaveValues given.params template → own_flaw template given ≡ Some f → IsRefused template given f
  cyclic_needs : HaveValues given.params template → own_flaw template given ≡ None → (path : List Step)
      → IsCycleOf (items_in template given) path → f ≡ flaw_at A04 path → IsRefused template given f

-- a template is admitted as one plan, or refused for one fault
pub record IsJudgedOneWay (template : Members) (given : Given) : Type 0 where
  pub plan : (p q : PlanData) → IsAdmitted template given p → IsAdmitted template given q → p ≡ q
  pub fault : (e f : AdmitFlaw) → IsRefused template given e → IsRefused template given f → e ≡ f
  pub apart : (p : PlanData) (f : AdmitFlaw) → IsAdmitted template given p → ¬ IsRefused template given f
