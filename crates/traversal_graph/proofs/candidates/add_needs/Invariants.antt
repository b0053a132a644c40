use Rattle.std.proofs.Common.{ℕ, ◌≤◌, length, take}
use Rattle.traversal_graph.specs.Candidates.{each, needs_into}
use Rattle.traversal_graph.specs.Fans.{Adds}
use Rattle.traversal_graph.proofs.candidates.add_needs.Given as goal

abbrev pub invariant-loop-place : goal.invariant-loop-place
invariant-loop-place l = (size : ℕ) → length l.items ≤ size
    → Adds size (each (take l.place l.items) (needs_into l.items)) l.initial.fans l.fans
