-- Single moves with their changes written out: behind each the marks of all stacks fit.
use Rattle.std.specs.Prelude.{List, ℕ, ◌≡◌}
use Rattle.heat_plan.specs.declared.phase.Status.TheVariants.{InProgress}
use Rattle.traversal_graph.specs.declared.shape.Node.TheVariants.{C, U}
use Rattle.core_state.specs.Changes.{applied}
use Rattle.core_state.specs.Reads.{IsDone}
use Rattle.core_state.specs.State.{StateData}
use Rattle.step_relation.specs.Finishes.{Finishes, finished_changes, graph_then}
use Rattle.step_relation.specs.Writes.{mark_complete}
use Rattle.step_relation.specs.GraphFits.{IsNode}
use Rattle.step_relation.specs.MarkFits.{MarksFit}
use Rattle.step_relation.specs.Sound.{Standing}

-- the last node is finished, behind all update nodes and all clean-up nodes: the stack is marked complete
abbrev pub CleanedIsMarked : Type 0
CleanedIsMarked = (s : StateData) (e : ℕ) (k : Finishes s e) → Standing s
    → ((i n : ℕ) (name : List ℕ) → IsNode (graph_then s e k) i (U name n) → IsDone (graph_then s e k) i)
    → ((i n : ℕ) → IsNode (graph_then s e k) i (C n) → IsDone (graph_then s e k) i)
    → k.fresh.stack.status ≡ InProgress
    → MarksFit (applied (finished_changes s e k (mark_complete k.fresh.stack)) s)
