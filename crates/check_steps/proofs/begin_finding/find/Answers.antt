use Rattle.std.proofs.Common.{◌≡◌, Some, subst, sym}
use Rattle.std.specs.Prelude.{List}
use Rattle.dep_graph.specs.Lists.{ListsAll}
use Rattle.heat_plan.specs.Plans.{PlanData}
use Rattle.sync_points.specs.declared.point.Input.{Input}
use Rattle.step_relation.specs.Inputs.{IsRequired}
use Rattle.check_steps.proofs.begin_finding.find.Goals as goal

pub returns : goal.returns
returns c = λ e at.
    let it = c.parts_of-parts.ensures e at in record {
      graph = it.graph;
      name = it.name;
      chosen = it.chosen;
      works = it.works;
      names = it.names;
      its_plan = subst (λ (p : PlanData). c.parts_of-parts.result.stack.now.plan ≡ Some p) (sym c.plan.ensures)
          it.its_plan;
      asked = it.asked;
      found = it.found;
      kept = it.kept;
      its_point = it.its_point;
      requires_are = subst (λ (xs : List Input). ListsAll (IsRequired xs) c.in_ok-required.required) c.as_slice.ensures
          c.in_ok-required.ensures;
    }
