use Rattle.std.proofs.Common.{take}
use Rattle.traversal_graph.specs.Fans.{OwnsRows}
use Rattle.traversal_graph.proofs.candidates.rows_by_item.Given as goal

-- the nodes of the rows so far
abbrev pub invariant-loop-r : goal.invariant-loop-r
invariant-loop-r l = OwnsRows l.items (take l.r l.rows) l.all.items
