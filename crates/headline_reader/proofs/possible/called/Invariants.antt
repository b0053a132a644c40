use Rattle.std.proofs.Common.{◌≡◌, ◌++◌, drop}
use Rattle.headline_reader.specs.Called.{called, could_be, given_up}
use Rattle.headline_reader.proofs.possible.called.Given as goal

abbrev pub invariant-loop-entry : goal.invariant-loop-entry
invariant-loop-entry l = l.all ++ called (could_be l.entries) (given_up l.entries) l.stack (drop l.entry-index l.entries) ≡ called (could_be l.entries) (given_up l.entries) l.stack l.entries
