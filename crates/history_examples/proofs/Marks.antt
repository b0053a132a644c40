-- The case of `specs/Marks.antt`, by the law of moves through its constructor.
use Rattle.std.proofs.Common.{None, refl, ℕ}
use Rattle.traversal_graph.specs.declared.shape.Node.{Node}
use Rattle.traversal_graph.specs.declared.shape.Node.TheVariants.{C, U}
use Rattle.core_state.specs.Reads.{IsDone}
use Rattle.step_relation.specs.Finishes.{graph_then}
use Rattle.step_relation.specs.Given.{Nothing}
use Rattle.step_relation.specs.Moves.{finish_last}
use Rattle.step_relation.specs.Runs.{nothing}
use Rattle.step_relation.specs.Unjudged.{unjudged}
use Rattle.step_relation.specs.GraphFits.{IsNode}
use Rattle.history_examples.specs.Marks.{CleanedIsMarked}
use Rattle.graph_laws.proofs.fits.Below.{marks_by_moves}

pub cleaned_is_marked : CleanedIsMarked
cleaned_is_marked s e k h updates cleanups unmarked =
    marks_by_moves unjudged s e Nothing None _ _ h
    (finish_last k _ _ (record { all = all; unmarked = unmarked }) refl refl) nothing where
      all : (i : ℕ) (node : Node) → IsNode (graph_then s e k) i node → IsDone (graph_then s e k) i
      all i (U name n) at = updates i n name at
      all i (C n) at = cleanups i n at
