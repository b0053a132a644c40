use Rattle.std.proofs.Common.{◌<◌, ℕ}
use Rattle.std.specs.Prelude.{slice_index_or}
use Rattle.core_state.specs.declared.graph.Graph.{Graph}
use Rattle.step_relation.specs.Numbered.{GraphBelow}
use Rattle.state_images.proofs.records.graphs_are_below.Given as goal

abbrev pub invariant-loop-graph : goal.invariant-loop-graph
invariant-loop-graph l = (k : ℕ) (d : Graph) → k < l.graph-index → GraphBelow l.next (slice_index_or l.graphs k d)
