use Rattle.std.proofs.Common.{take}
use Rattle.opening_check.specs.Places.{IsIndex, tokens_of}
use Rattle.opening_check.proofs.index.index_of_list.Given as goal

abbrev pub invariant-loop-place : goal.invariant-loop-place
invariant-loop-place l = IsIndex (take l.place (tokens_of l.all)) l.index.items
