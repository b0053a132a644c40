use Rattle.std.proofs.Common.{◌≡◌, map, take}
use Rattle.heat_value.specs.declared.value.Member.{Member}
use Rattle.sim_cloud.proofs.rule.names_of.Given as goal

abbrev pub invariant-loop-entry : goal.invariant-loop-entry
invariant-loop-entry l = l.names ≡ map (λ (e : Member). e.key) (take l.entry-index l.entry-items)
