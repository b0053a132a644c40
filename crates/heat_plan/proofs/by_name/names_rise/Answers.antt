use Rattle.std.proofs.Common.{◌≡◌, ◌<◌, ◌-◌, length, refl, sym, ◌∙◌, get_or, arith}
use Rattle.std.proofs.lemmas.Grind.{common_steps}
use Rattle.heat_plan.proofs.OrderLemmas.{not_less, Less-in_order, in_order-from_adjacent}
use Rattle.heat_plan.proofs.by_name.names_rise.Goals as goal

pub returns-then-ne : goal.returns-then-ne
returns-then-ne g c = (
  λ f. cc,
  λ rising.
      let here : c.loop-i.i < length c.args.list.now = omega arith in
      let first : get_or c.args.list.now (c.loop-i.i - 1) c.index-list-i.result ≡ c.index-list-i.result = grind (arith, common_steps) in
      let second : get_or c.args.list.now c.loop-i.i c.index-list-i.result ≡ c.index-list-i-in-loop-i.result = grind (arith, common_steps) in
      let less = Less-in_order g.T.HasName.name_of c.args.list.now (c.loop-i.i - 1) c.loop-i.i c.index-list-i.result rising
      (omega arith) here in
      absurd (not_less c.cmp.result (sym c.ne.ensures ∙ c.if-ne.true)
      (c.cmp.ensures ∙ (rw (c.name.ensures, c.name-in-loop-i.ensures, ← first, ← second) less))),
)

pub returns : goal.returns
returns g c = (
  λ _. in_order-from_adjacent g.T.HasName.name_of c.args.list.now (λ k d below. c.loop-i.invariant k d (omega arith)),
  λ _. refl,
)
