use Rattle.std.proofs.Common.{◌<◌, ◌≤◌, ◌-◌, ℕ, length}
use Rattle.std.specs.Prelude.{slice_index_or}
use Rattle.traversal_graph.specs.Numbered.{IsNumberedBefore, PutsAll}
use Rattle.traversal_graph.specs.declared.brief.RowBrief.{RowBrief}
use Rattle.traversal_graph.proofs.numbered.put_rows.Given as goal

-- of the rows before a place, the nodes of those that have the number
abbrev pub invariant-loop-number : goal.invariant-loop-number
invariant-loop-number l = record {
  puts : PutsAll (IsNumberedBefore l.first l.rows l.number l.q) l.initial.nodes l.nodes;
  from : (k : ℕ) (d : RowBrief) → l.q ≤ k → k < length l.rows → l.number ≤ (slice_index_or l.rows k d).no;
}

abbrev pub decreases-loop-number : goal.decreases-loop-number
decreases-loop-number l = length l.rows - l.q
