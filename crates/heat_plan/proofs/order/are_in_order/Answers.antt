use Rattle.std.proofs.Common.{◌≡◌, ◌<◌, ◌-◌, length, refl, sym, ap, ◌∙◌, get_or, arith}
use Rattle.std.proofs.lemmas.Grind.{common_steps}
use Rattle.std.specs.Ordering.{nat_cmp}
use Rattle.std.specs.Cmp.Lexicographic.{slice_cmp}
use Rattle.heat_plan.specs.declared.item.Item.{Item}
use Rattle.heat_plan.proofs.OrderLemmas.{not_less, Less-in_order, in_order-from_adjacent}
use Rattle.heat_plan.proofs.order.are_in_order.Goals as goal

pub returns-then-ne : goal.returns-then-ne
returns-then-ne c = (
  λ f. cc,
  λ rising.
      let here : c.loop-i.i < length c.args.items.now = omega arith in
      let second : get_or c.args.items.now c.loop-i.i c.index-items-i.result ≡ c.index-items-i-in-loop-i.result = grind (arith, common_steps) in
      let less = Less-in_order (λ (x : Item). x.name) c.args.items.now (c.loop-i.i - 1) c.loop-i.i c.index-items-i.result rising (omega arith) here in
      let same = ap (λ (x : Item). slice_cmp nat_cmp (get_or c.args.items.now (c.loop-i.i - 1) c.index-items-i.result).name x.name)
      (sym c.index-items-i-in-loop-i.is ∙ sym second) in
      absurd (not_less c.cmp.result (sym c.ne.ensures ∙ c.if-ne.true) (c.cmp.ensures ∙ same ∙ less)),
)

pub returns : goal.returns
returns c = (λ _. in_order-from_adjacent (λ (x : Item). x.name) c.args.items.now (λ k d below. c.loop-i.invariant k d (omega arith)), λ _. refl)
