use Rattle.std.proofs.Common.{◌≡◌, ◌++◌, drop}
use Rattle.hot_admit.specs.Basis.{basis_data}
use Rattle.hot_admit.specs.Items.{items_marked}
use Rattle.hot_admit.specs.Resources.{resources_data}
use Rattle.hot_admit.proofs.items.items_of.Given as goal

-- those so far and those left are all
abbrev pub invariant-loop-place : goal.invariant-loop-place
invariant-loop-place l =
    l.items ++ items_marked (basis_data l.basis) l.names (resources_data (drop l.place l.res-items))
    (drop l.place l.wanted)
    ≡ items_marked (basis_data l.basis) l.names (basis_data l.basis).resources l.wanted
