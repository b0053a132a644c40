use Rattle.std.proofs.Common.{◌≡◌, ◌-◌, ◌^◌, ℕ, Some}
use Rattle.row_table.specs.Chains.{Leads}
use Rattle.row_table.specs.Rows.{row_at}
use Rattle.step_reads.proofs.targets.end_of.Given as goal

abbrev pub invariant-loop-behind : goal.invariant-loop-behind
invariant-loop-behind l = record {
  stands : row_at l.s.state.rows l.last.no ≡ Some l.last;
  leads : (t : ℕ) → Leads l.s.state.rows l.last.no t → Leads l.s.state.rows l.row.no t;
}

abbrev pub decreases-loop-behind : goal.decreases-loop-behind
decreases-loop-behind l = 2 ^ 62 - l.last.no
