use Rattle.std.proofs.Common.{◌≡◌, ◌≤◌, ◌++◌, length}
use Rattle.book.proofs.making.write.Given as goal

abbrev pub invariant-loop-entry : goal.invariant-loop-entry
invariant-loop-entry l =
    (l.entries.items ++ l.entry-iterator.rest.items ≡ l.fn.entries.items ++ l.fn.made.entries)
    × (length l.entry-iterator.rest.items ≤ l.entries.spare)
