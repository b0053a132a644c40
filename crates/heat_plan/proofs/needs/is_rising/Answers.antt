use Rattle.std.proofs.Common.{◌≡◌, ◌<◌, ◌-◌, [], length, refl, sym, ◌∙◌, get_or, arith}
use Rattle.std.proofs.lemmas.Grind.{common_steps}
use Rattle.std.proofs.lemmas.Cmp.{nat_list_cmp_total}
use Rattle.std.proofs.lemmas.Map.Keys.{sorted_from_all_adjacent, Less-from_sorted}
use Rattle.std.specs.Ordering.{nat_cmp}
use Rattle.std.specs.Cmp.Lexicographic.{slice_cmp}
use Rattle.heat_plan.proofs.OrderLemmas.{not_less}
use Rattle.heat_plan.proofs.needs.is_rising.Goals as goal

pub returns-then-ne : goal.returns-then-ne
returns-then-ne c = (
  λ f. cc,
  λ rising.
      let here : c.loop-i.i < length c.args.names.now = omega arith in
      let second : get_or c.args.names.now c.loop-i.i c.index-names-i.result ≡ c.index-names-i-in-loop-i.result = grind (arith, common_steps) in
      let less = Less-from_sorted (slice_cmp nat_cmp) c.args.names.now (c.loop-i.i - 1) c.loop-i.i c.index-names-i.result rising (omega arith) here in
      absurd (not_less c.cmp.result (sym c.ne.ensures ∙ c.if-ne.true) (c.cmp.ensures ∙ (rw (← c.index-names-i.is, second) at less))),
)

pub returns : goal.returns
returns c = (λ _. sorted_from_all_adjacent nat_list_cmp_total c.args.names.now [] (λ k below. c.loop-i.invariant k [] (omega arith)), λ _. refl)
