use Rattle.std.proofs.Common.{◌+◌, length, take}
use Rattle.traversal_graph.specs.Candidates.{each, replaced_behind}
use Rattle.traversal_graph.specs.Fans.{Adds}
use Rattle.traversal_graph.proofs.candidates.add_replaces.Given as goal

abbrev pub invariant-loop-r : goal.invariant-loop-r
invariant-loop-r l = Adds (l.first + length l.rows) (each (take l.r l.rows) (replaced_behind l.first l.rows)) l.initial.fans l.fans
