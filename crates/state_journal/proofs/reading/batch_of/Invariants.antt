use Rattle.std.proofs.Common.{◌≡◌, ◌++◌}
use Rattle.state_journal.proofs.reading.batch_of.Given as goal

-- the changes so far and those that are left are all
abbrev pub invariant-loop-change : goal.invariant-loop-change
invariant-loop-change l = l.batch ++ l.change-iterator.rest.items ≡ l.fn.changes.items
