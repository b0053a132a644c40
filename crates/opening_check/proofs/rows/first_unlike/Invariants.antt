use Rattle.opening_check.specs.Rows.{IsLowest}
use Rattle.opening_check.proofs.rows.first_unlike.Given as goal

-- the lowest so far
abbrev pub invariant-loop-seen : goal.invariant-loop-seen
invariant-loop-seen l = IsLowest l.all l.s.state.rows l.seen-index l.first
