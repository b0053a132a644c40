use Rattle.std.proofs.Common.{take}
use Rattle.heat_value.specs.Meaning.{nodes_of}
use Rattle.hot_eval.specs.Seen.{HoldsAll}
use Rattle.hot_eval.proofs.seen.seen_of.Given as goal

-- those so far
abbrev pub invariant-loop-value : goal.invariant-loop-value
invariant-loop-value l = HoldsAll l.seen (nodes_of (take l.value-index l.values))
