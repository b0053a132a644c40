-- What a stack's mark says of its nodes and rows.
use Rattle.std.specs.Prelude.{AllPairs, IsSome, List, None, Some, false, ℕ, ◌↔◌, ◌≡◌, ◌≢◌, ◌⊎◌}
use Rattle.heat_value.specs.declared.path.Step.{Step}
use Rattle.heat_plan.specs.Plans.{IsPlan}
use Rattle.heat_plan.specs.declared.phase.Act.TheVariants.{Delete, Init, Rollback}
use Rattle.heat_plan.specs.declared.phase.Status.TheVariants.{Complete, Failed}
use Rattle.traversal_graph.specs.declared.shape.Node.TheVariants.{U}
use Rattle.row_table.specs.Rows.{row_at}
use Rattle.row_table.specs.declared.row.Row.{Row}
use Rattle.core_state.specs.State.{StateData, past_at, stack_at}
use Rattle.core_state.specs.declared.graph.Graph.{Graph}
use Rattle.core_state.specs.declared.past.Past.{Past}
use Rattle.core_state.specs.declared.stack.Stack.{Stack}
use Rattle.eval_words.specs.Resolve.{Fault}
use Rattle.step_relation.specs.Freshness.{plan_of}
use Rattle.step_relation.specs.Inputs.{AllDone}
use Rattle.step_relation.specs.Resends.{IsOpen}
use Rattle.step_relation.specs.GraphFits.{Aims, IsNode, Sweeps, graph_of}
use Rattle.step_relation.specs.RowsFit.{Resolves}

-- a node on which the traversal failed
pub data IsFailed (s : StateData) (st : Stack) (g : Graph) (i : ℕ) : Type 0 where
  by_row : (name : List ℕ) (r : Row) → Aims s st g i name r → r.status ≡ Failed → r.trav ≡ st.trav → IsFailed s st g i
  by_clean_up : (r : Row) → Sweeps s g i r → r.act ≡ Delete → r.status ≡ Failed → r.trav ≡ st.trav → IsFailed s st g i
  by_plan : (name : List ℕ) (n : ℕ) (code : List ℕ) (path : List Step) → IsNode g i (U name n)
      → Resolves st g i name (Fault code path) → IsFailed s st g i

-- a node that is ready and not done, on which the traversal failed
pub record HasFailure (s : StateData) (st : Stack) (g : Graph) : Type 0 where
  pub i : ℕ
  pub open_ : IsOpen g i
  pub failed : IsFailed s st g i

-- a stack's mark, act and plan fit its rows and its graph
pub record MarkFits (s : StateData) (st : Stack) (g : Graph) : Type 0 where
  pub complete : (st.status ≡ Complete) ↔ AllDone g
  pub failing : (n : ℕ) (r : Row) → row_at s.rows n ≡ Some r → r.stack ≡ st.name → r.status ≡ Failed
      → r.trav ≡ st.trav → st.status ≡ Failed
  pub failed : st.status ≡ Failed → HasFailure s st g
  pub act : st.act ≢ Init
  pub deletes : (st.act ≡ Delete) ↔ (st.plan ≡ None)
  pub proper : IsPlan (plan_of st.plan).items (plan_of st.plan).absent

-- the mark of every stack in the table fits
pub record MarksFit (s : StateData) : Type 0 where
  pub each : (name : List ℕ) (st : Stack) → stack_at s.stacks name ≡ Some st → MarkFits s st (graph_of s name)

-- a failure is rolled back to a plan, and only of a traversal that goes forward
pub record PastFits (s : StateData) (p : Past) : Type 0 where
  pub in_table : IsSome (stack_at s.stacks p.stack)
  pub forward : (st : Stack) → stack_at s.stacks p.stack ≡ Some st → (st.act ≡ Delete) ⊎ (st.act ≡ Rollback)
      → p.rollback ≡ false
  pub proper : IsPlan (plan_of p.back).items (plan_of p.back).absent

-- and a stack has one past at most
pub record PastsFit (s : StateData) : Type 0 where
  pub once : AllPairs (λ (p q : Past). p.stack ≢ q.stack) s.pasts
  pub each : (name : List ℕ) (p : Past) → past_at s.pasts name ≡ Some p → PastFits s p
