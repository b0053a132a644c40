use Rattle.std.proofs.Common.{◌≡◌, ◌++◌, drop, map}
use Rattle.hot_admit.specs.Conds.{output_wanted, unvalued_output}
use Rattle.hot_admit.specs.Resources.{outputs_data}
use Rattle.hot_admit.proofs.condition_values.wanted_outputs.Given as goal

-- those so far and those left are all, and what is left decides
abbrev pub invariant-loop-out : goal.invariant-loop-out
invariant-loop-out l =
    (l.all ++ map (output_wanted l.params l.known) (outputs_data (drop l.out-index l.outputs))
    ≡ map (output_wanted l.params l.known) (outputs_data l.outputs))
    × (unvalued_output l.params l.known (outputs_data l.outputs)
    ≡ unvalued_output l.params l.known (outputs_data (drop l.out-index l.outputs)))
