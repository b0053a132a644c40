use Rattle.std.proofs.Common.{◌↔◌, drop}
use Rattle.heat_value.specs.Meaning.{data_of, nodes_of}
use Rattle.hot_params.specs.Rules.{IsAmong}
use Rattle.hot_params.proofs.values.is_among.Given as goal

-- what is left decides
abbrev pub invariant-loop-member : goal.invariant-loop-member
invariant-loop-member l =
    IsAmong l.sort l.allowed (data_of l.value)
    ↔ IsAmong l.sort (nodes_of (drop l.member-index l.member-items)) (data_of l.value)
