use Rattle.std.proofs.Common.{◌<◌, ℕ}
use Rattle.std.specs.Prelude.{slice_index_or}
use Rattle.core_state.specs.declared.Node.{Node}
use Rattle.state_images.specs.Ties.{HasLowRow}
use Rattle.state_images.proofs.numbering.nodes_are_below.Given as goal

abbrev pub invariant-loop-node : goal.invariant-loop-node
invariant-loop-node l = (k : ℕ) (d : Node) → k < l.node-index → HasLowRow l.next (slice_index_or l.nodes k d)
