use Rattle.std.proofs.Common.{◌≡◌, ◌++◌}
use Rattle.step_ends.specs.Broken.{entries_broken}
use Rattle.step_ends.proofs.breaking.broken_entries.Given as goal

-- those so far and those left are all
abbrev pub invariant-loop-entry : goal.invariant-loop-entry
invariant-loop-entry l =
    l.told ++ entries_broken l.code l.entry-iterator.rest.items ≡ entries_broken l.code l.fn.entries
