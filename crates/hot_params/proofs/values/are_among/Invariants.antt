use Rattle.std.proofs.Common.{◌↔◌, drop}
use Rattle.heat_value.specs.Meaning.{nodes_of}
use Rattle.hot_params.specs.Rules.{AreAmong}
use Rattle.hot_params.proofs.values.are_among.Given as goal

-- what is left decides
abbrev pub invariant-loop-value : goal.invariant-loop-value
invariant-loop-value l =
    AreAmong l.allowed l.items ↔ AreAmong l.allowed (nodes_of (drop l.value-index l.value-items))
