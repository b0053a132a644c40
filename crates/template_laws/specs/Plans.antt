-- The plan of a body faults by no form.
use Rattle.std.specs.Prelude.{List}
use Rattle.heat_plan.specs.Plans.{PlanData}
use Rattle.heat_plan.specs.declared.facts.KnownFacts.{KnownFacts}
use Rattle.script_lines.specs.Requested.{BodyData}
use Rattle.template_plans.specs.Plans.{Beside, IsPlanOf}
use Rattle.template_laws.specs.Admissions.{FaultsByNoForm, HasRisingConditions}

abbrev pub PlansFaultByNoForm : Type 0
PlansFaultByNoForm = (body : BodyData) (it : Beside) (plan : PlanData) (of : IsPlanOf body it plan)
    → HasRisingConditions of.template → (known : List KnownFacts) → FaultsByNoForm plan known
