use Rattle.std.proofs.Common.{◌+◌, length, take}
use Rattle.traversal_graph.specs.Candidates.{each, rows_behind}
use Rattle.traversal_graph.specs.Fans.{Adds}
use Rattle.traversal_graph.proofs.candidates.add_rows.Given as goal

abbrev pub invariant-loop-place : goal.invariant-loop-place
invariant-loop-place l =
    Adds (length l.items + length l.rows) (each (take l.place l.items) (rows_behind (length l.items) l.rows)) l.initial.fans l.fans
