use Rattle.std.specs.Prelude.{map}
use Rattle.step_reads.proofs.ChainLemmas.{LeadingFrom}
use Rattle.step_reads.proofs.chains.leading_to.Given as goal

abbrev pub invariant-loop-left : goal.invariant-loop-left
invariant-loop-left l = LeadingFrom l.s.state.rows (map (λ r. r.now) l.standing.items) l.leading l.left l.row

abbrev pub decreases-loop-left : goal.decreases-loop-left
decreases-loop-left l = l.left
