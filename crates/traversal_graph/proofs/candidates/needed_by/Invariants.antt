use Rattle.std.proofs.Common.{◌≡◌, ◌<◌, ℕ, List, length, take}
use Rattle.std.specs.Prelude.{All, nat_lt}
use Rattle.traversal_graph.specs.Candidates.{each, edge_if, edges_in, place_of}
use Rattle.traversal_graph.proofs.candidates.needed_by.Given as goal

-- the needs so far, each where it is the name of an item
abbrev pub invariant-loop-need : goal.invariant-loop-need
invariant-loop-need l = record {
  exact : (place : ℕ) → edges_in l.nodes place
      ≡ each (take l.need-index l.need-items)
      (λ (_ : ℕ) (need : List ℕ). edge_if (nat_lt (place_of l.items need) (length l.items)) (place_of l.items need) place);
  within : All (λ node. node < length l.items) l.nodes;
}
