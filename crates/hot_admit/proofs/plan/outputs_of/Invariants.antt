use Rattle.std.proofs.Common.{◌≡◌, ◌++◌, drop}
use Rattle.hot_admit.specs.Plans.{outputs_marked}
use Rattle.hot_admit.specs.Resources.{outputs_data}
use Rattle.hot_admit.proofs.plan.outputs_of.Given as goal

-- those so far and those left are all
abbrev pub invariant-loop-place : goal.invariant-loop-place
invariant-loop-place l =
    l.all ++ outputs_marked (outputs_data (drop l.place l.outputs)) (drop l.place l.wanted)
    ≡ outputs_marked (outputs_data l.outputs) l.wanted
