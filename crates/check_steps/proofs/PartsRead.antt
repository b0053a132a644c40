-- The parts that were read of a state are those of the begin.
use Rattle.std.proofs.Common.{◌≡◌, ◌≢◌, ◌∙◌, None, Some, refl, subst, sym}
use Rattle.std.specs.Prelude.{IsSome, List, Option, option_map, slice_get, ℕ}
use Rattle.heat_plan.specs.Tables.{at as table_at}
use Rattle.heat_plan.specs.Plans.{PlanData}
use Rattle.heat_plan.specs.declared.item.Item.{Item}
use Rattle.heat_plan.specs.declared.phase.Act.TheVariants.{Delete}
use Rattle.traversal_graph.specs.declared.shape.Node.TheVariants.{U}
use Rattle.row_table.specs.Rows.{row_at}
use Rattle.row_table.specs.declared.row.Row.{Row}
use Rattle.sync_points.specs.declared.point.Point.{Point}
use Rattle.mail_table.specs.declared.mail.Job.{Job}
use Rattle.core_state.specs.Reads.{item_at}
use Rattle.core_state.specs.State.{StateData, graph_at, stack_at}
use Rattle.core_state.specs.declared.graph.Graph.{Graph}
use Rattle.core_state.specs.declared.stack.Stack.{Stack}
use Rattle.step_relation.specs.Freshness.{plan_of}
use Rattle.history_laws.proofs.tables.Rows.{same_some}
use Rattle.check_steps.specs.AtUpdate.{AtUpdate}
use Rattle.check_steps.specs.Parts.{IsParts}
use Rattle.check_steps.specs.declared.begin_parts.Parts.{Parts}

-- a plan with an item is one
pub has_plan : (plan : Option PlanData) (name : List ℕ) (item : Item) → item_at (plan_of plan).items name ≡ Some item
    → IsSome plan
unfolding table_at
has_plan None name item asked = absurd (none_some asked) where
  none_some : None ≡ Some item → ⊥
  none_some e = cc
has_plan (Some plan) name item asked = refl

-- the node's point, in the graph that was read
pub has_point : (s : StateData) (e : ℕ) (j : Job) (graph : Graph) {A : Type 0} (now : A → Point) (found : Option A)
    → AtUpdate s e j → graph_at s.graphs j.letter.stack ≡ Some graph
    → option_map now found ≡ slice_get graph.points j.letter.node → IsSome found
has_point s e j graph now found at graph_is is = by found (is ∙ there) where
  there : slice_get graph.points j.letter.node ≡ Some at.point
  there = subst (λ (g : Graph). slice_get g.points j.letter.node ≡ Some at.point)
      (same_some at.graph graph at.names.its_graph graph_is) at.its_point

  by : (o : Option _) → option_map now o ≡ Some at.point → IsSome o
  by None none = let e : None ≡ Some at.point = none in cc
  by (Some p) some = refl

-- the parts that were read
pub parts_at : (s : StateData) (e : ℕ) (j : Job) (it : Parts) (graph : Graph) (plan : PlanData) (name : List ℕ)
    → AtUpdate s e j
    → stack_at s.stacks j.letter.stack ≡ Some it.stack.now
    → graph_at s.graphs j.letter.stack ≡ Some graph
    → slice_get graph.points j.letter.node ≡ Some it.point.now
    → it.stack.now.plan ≡ Some it.plan.now → plan ≡ it.plan.now
    → ((asked : List ℕ) (chosen : ℕ) → slice_get graph.graph.nodes j.letter.node ≡ Some (U asked chosen)
    → name ≡ asked)
    → item_at plan.items name ≡ Some it.item.now
    → row_at s.rows j.row ≡ Some it.row.now
    → IsParts s e j it
parts_at s e j it graph plan name at stack_is graph_is its_point its_plan plan_is named item_is row_is =
    record {
      graph = graph;
      name = at.name;
      chosen = at.chosen;
      works = at.works;
      names = record {
        in_table = stack_is;
        newest = subst (λ (x : Stack). x.trav ≡ j.letter.trav) same_stack at.names.newest;
        its_graph = graph_is;
        its_node = its_node;
      };
      its_plan = its_plan;
      asked = subst (λ (p : Option PlanData). item_at (plan_of p).items at.name ≡ Some it.item.now) (sym its_plan)
          (subst (λ (p : PlanData). item_at p.items at.name ≡ Some it.item.now) plan_is
          (subst (λ (n : List ℕ). item_at plan.items n ≡ Some it.item.now) (named at.name at.chosen its_node) item_is));
      found = row_is;
      kept = subst (λ (r : Row). r.act ≢ Delete) (same_some at.row it.row.now at.found row_is) at.kept;
      its_point = its_point;
    } where
      same_stack : at.stack ≡ it.stack.now
      same_stack = same_some at.stack it.stack.now at.names.in_table stack_is

      same_graph : at.graph ≡ graph
      same_graph = same_some at.graph graph at.names.its_graph graph_is

      its_node : slice_get graph.graph.nodes j.letter.node ≡ Some (U at.name at.chosen)
      its_node = subst (λ (g : Graph). slice_get g.graph.nodes j.letter.node ≡ Some (U at.name at.chosen))
          same_graph at.names.its_node
