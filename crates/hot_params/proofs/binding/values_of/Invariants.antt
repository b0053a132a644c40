use Rattle.std.proofs.Common.{drop, map}
use Rattle.heat_value.specs.Meaning.{members_of}
use Rattle.hot_params.proofs.Progress.{IsOnTheWay}
use Rattle.hot_params.proofs.binding.values_of.Given as goal

abbrev pub invariant-loop-param : goal.invariant-loop-param
invariant-loop-param g l =
    IsOnTheWay (map (λ t. t.test) l.registry.customs) l.given l.params l.values
    (members_of (drop l.param-index l.param-items))
