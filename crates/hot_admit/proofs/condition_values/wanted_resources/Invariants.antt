use Rattle.std.proofs.Common.{◌≡◌, ◌++◌, drop, map}
use Rattle.hot_admit.specs.Conds.{resource_wanted, unvalued_resource}
use Rattle.hot_admit.specs.Resources.{resources_data}
use Rattle.hot_admit.proofs.condition_values.wanted_resources.Given as goal

-- those so far and those left are all, and what is left decides
abbrev pub invariant-loop-res : goal.invariant-loop-res
invariant-loop-res l =
    (l.all ++ map (resource_wanted l.params l.known) (resources_data (drop l.res-index l.resources))
    ≡ map (resource_wanted l.params l.known) (resources_data l.resources))
    × (unvalued_resource l.params l.known (resources_data l.resources)
    ≡ unvalued_resource l.params l.known (resources_data (drop l.res-index l.resources)))
