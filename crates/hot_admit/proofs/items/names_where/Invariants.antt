use Rattle.std.proofs.Common.{◌≡◌, ◌++◌, drop}
use Rattle.hot_admit.specs.Items.{names_marked}
use Rattle.hot_admit.specs.Resources.{resources_data}
use Rattle.hot_admit.proofs.items.names_where.Given as goal

-- those so far and those left are all
abbrev pub invariant-loop-place : goal.invariant-loop-place
invariant-loop-place l =
    l.names ++ names_marked l.are_wanted (resources_data (drop l.place l.resources)) (drop l.place l.wanted)
    ≡ names_marked l.are_wanted (resources_data l.resources) l.wanted
