use Rattle.std.proofs.Common.{◌≡◌, ◌++◌, drop}
use Rattle.heat_value.specs.Meaning.{nodes_of}
use Rattle.hot_tree.specs.Constraints.{asked_by, asked_among}
use Rattle.hot_tree.proofs.constraint.constraints_among.Given as goal

-- those so far and those left are all
abbrev pub invariant-loop-entry : goal.invariant-loop-entry
invariant-loop-entry l =
    asked_by l.constraints ++ asked_among (nodes_of (drop l.entry-index l.entry-items)) ≡ asked_among l.entries
