use Rattle.std.proofs.Common.{◌≡◌, ◌<◌, ◌-◌, length, refl, sym, ap, ◌∙◌, get_or, arith}
use Rattle.std.proofs.lemmas.Grind.{common_steps}
use Rattle.std.specs.Ordering.{nat_cmp}
use Rattle.std.specs.Cmp.Lexicographic.{slice_cmp}
use Rattle.heat_value.specs.declared.value.Member.{Member}
use Rattle.heat_plan.proofs.OrderLemmas.{not_less, Less-in_order, in_order-from_adjacent}
use Rattle.plan_codec.proofs.RisingMaps.{rises_by_keys, keys_from_rises}
use Rattle.plan_codec.proofs.fields.keys_rise.Goals as goal

pub returns-then-ne : goal.returns-then-ne
returns-then-ne c = (
  λ f. cc,
  λ rises.
      let here : c.loop-i.i < length c.args.members.now = omega arith in
      let second : get_or c.args.members.now c.loop-i.i c.index-members-i.result ≡ c.index-members-i-in-loop-i.result = grind (arith, common_steps) in
      let less = Less-in_order (λ (m : Member). m.key) c.args.members.now (c.loop-i.i - 1) c.loop-i.i c.index-members-i.result (keys_from_rises c.args.members.now rises) (omega arith) here in
      let same = ap (λ (m : Member). slice_cmp nat_cmp (get_or c.args.members.now (c.loop-i.i - 1) c.index-members-i.result).key m.key)
      (sym c.index-members-i-in-loop-i.is ∙ sym second) in
      absurd (not_less c.cmp.result (sym c.ne.ensures ∙ c.if-ne.true) (c.cmp.ensures ∙ same ∙ less)),
)

pub returns : goal.returns
returns c = (λ _. rises_by_keys c.args.members.now (in_order-from_adjacent (λ (m : Member). m.key) c.args.members.now (λ k d below. c.loop-i.invariant k d (omega arith))), λ _. refl)
