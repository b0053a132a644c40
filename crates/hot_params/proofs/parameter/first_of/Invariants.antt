use Rattle.std.proofs.Common.{drop, map}
use Rattle.heat_value.specs.Meaning.{data_of, nodes_of}
use Rattle.hot_params.proofs.Progress.{LeadsTo}
use Rattle.hot_params.proofs.parameter.first_of.Given as goal

abbrev pub invariant-loop-place : goal.invariant-loop-place
invariant-loop-place g l =
    LeadsTo (map (λ t. t.test) l.registry.customs) l.sort (data_of l.value) l.entries l.place
    (nodes_of (drop l.place l.entry-items))
