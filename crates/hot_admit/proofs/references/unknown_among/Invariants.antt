use Rattle.std.proofs.Common.{◌≡◌, drop}
use Rattle.heat_value.specs.Meaning.{nodes_of}
use Rattle.hot_admit.specs.Basis.{basis_data}
use Rattle.hot_admit.specs.References.{unknown_among}
use Rattle.hot_admit.proofs.references.unknown_among.Given as goal

-- what is left decides
abbrev pub invariant-loop-i : goal.invariant-loop-i
invariant-loop-i l =
    unknown_among (basis_data l.basis).resources 0 (nodes_of l.values)
    ≡ unknown_among (basis_data l.basis).resources l.i (nodes_of (drop l.i l.values))
