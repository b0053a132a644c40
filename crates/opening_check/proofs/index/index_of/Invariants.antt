use Rattle.std.proofs.Common.{take}
use Rattle.opening_check.specs.Places.{IsIndex}
use Rattle.opening_check.proofs.index.index_of.Given as goal

abbrev pub invariant-loop-place : goal.invariant-loop-place
invariant-loop-place l = IsIndex (take l.place l.tokens) l.index.items
