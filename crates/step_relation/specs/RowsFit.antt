-- How far a stack's rows are, by their acts and by the graph.
use Rattle.std.specs.Prelude.{Contains, IsSome, List, None, Some, slice_get, unwrap_or, ℕ, ◌≡◌, ◌≢◌, ◌⊎◌}
use Rattle.heat_plan.specs.Plans.{names_of}
use Rattle.heat_plan.specs.declared.facts.KnownFacts.{KnownFacts}
use Rattle.heat_plan.specs.declared.item.Item.{Item}
use Rattle.heat_plan.specs.declared.phase.Act.TheVariants.{Create, Delete, Init, Rollback, Update}
use Rattle.heat_plan.specs.declared.phase.Status.TheVariants.{Complete, InProgress}
use Rattle.row_table.specs.Chains.{IsCurrent}
use Rattle.row_table.specs.declared.row.Row.{Row}
use Rattle.sync_points.specs.declared.point.Point.{Point}
use Rattle.core_state.specs.Reads.{IsDone, IsReady, item_at}
use Rattle.core_state.specs.State.{StateData}
use Rattle.core_state.specs.declared.graph.Graph.{Graph}
use Rattle.core_state.specs.declared.stack.Stack.{Stack}
use Rattle.eval_words.specs.Resolve.{Props, Resolved, resolve}
use Rattle.step_relation.specs.Freshness.{plan_of}
use Rattle.step_relation.specs.Inputs.{AreKnown}
use Rattle.step_relation.specs.GraphFits.{Aims, Sweeps}

-- a row by its act and status
pub record RowFits (r : Row) : Type 0 where
  pub acts : r.act ≢ Rollback
  pub init : r.act ≡ Init → r.status ≡ Complete
  pub plain : (r.act ≡ Init) ⊎ ((r.act ≡ Create) ⊎ (r.status ≡ Complete)) → r.target ≡ None
  pub updating : r.act ≡ Update → r.status ≡ InProgress → IsSome r.target
  pub ready : r.status ≡ Complete → r.act ≢ Init → IsSome r.facts
  pub leaving : r.act ≡ Delete → r.status ≢ Complete

-- what the item of an update node's name resolves to, with the node's inputs
pub record Resolves (st : Stack) (g : Graph) (i : ℕ) (name : List ℕ) (result : Resolved) : Type 0 where
  pub point : Point
  pub there : slice_get g.points i ≡ Some point
  pub item : Item
  pub asked : item_at (plan_of st.plan).items name ≡ Some item
  pub known : List KnownFacts
  pub known_are : AreKnown point.inputs item.needs known
  pub result_is : resolve (plan_of st.plan) item known ≡ result

-- a target that this traversal began has what its item asks for
pub record IsBegun (st : Stack) (g : Graph) (i : ℕ) (name : List ℕ) (r : Row) : Type 0 where
  pub ready : IsReady g i
  pub item : Item
  pub asked : item_at (plan_of st.plan).items name ≡ Some item
  pub kind : r.kind.name ≡ item.kind.name
  pub props : Resolves st g i name (Props (unwrap_or r.target r.props))

-- the target of a done update node
pub record IsMade (st : Stack) (r : Row) : Type 0 where
  pub status : r.status ≡ Complete
  pub newest : r.trav ≡ st.trav
  pub begun : r.act ≢ Init

-- a row is the current one of a name in the plan
pub record IsWanted (st : Stack) (r : Row) : Type 0 where
  pub current : IsCurrent r
  pub planned : Contains (names_of (plan_of st.plan).items) r.name

-- the rows that a stack's graph names fit its nodes: those begun, those made, those cleaned up
pub record RowsFit (s : StateData) (st : Stack) (g : Graph) : Type 0 where
  pub begun : (i : ℕ) (name : List ℕ) (r : Row) → Aims s st g i name r → r.trav ≡ st.trav → r.act ≢ Init
      → IsBegun st g i name r
  pub made : (i : ℕ) (name : List ℕ) (r : Row) → Aims s st g i name r → IsDone g i → IsMade st r
  pub cleaned : (i : ℕ) (r : Row) → Sweeps s g i r → IsDone g i → IsWanted st r
