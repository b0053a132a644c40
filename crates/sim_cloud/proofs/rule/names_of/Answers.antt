use Rattle.std.proofs.Common.{◌≡◌, ◌∙◌, ap, map, take, arith}
use Rattle.std.proofs.lemmas.Grind.{common_steps}
use Rattle.heat_value.specs.declared.value.Member.{Member}
use Rattle.sim_cloud.proofs.Attributes.{keys_of_members}
use Rattle.sim_cloud.proofs.rule.names_of.Goals as goal

pub returns : goal.returns
returns c =
    let items = c.as_slice-entry-items.result.now in
    let full : take c.loop-entry.entry-index items ≡ items = grind (arith, common_steps) in
    rw (← c.as_props.ensures.value, ← c.as_slice-entry-items.ensures.members, keys_of_members items) (c.loop-entry.invariant ∙ ap (map (λ (e : Member). e.key)) full)
