use Rattle.std.proofs.Common.{◌<◌, ◌-◌, ℕ, List, length, refl, ap, sym, ◌∙◌, get_or, arith}
use Rattle.std.proofs.lemmas.List.{get_or_default}
use Rattle.hot_strings.proofs.Rises.{cmp, not_less, Less-in_order, in_order-from_adjacent}
use Rattle.hot_strings.proofs.keys.keys_rise.Goals as goal

pub returns-then-ne : goal.returns-then-ne
returns-then-ne c = (
  λ f. cc,
  λ rising.
      let here : c.loop-i.i < length c.args.params.now = omega arith in
      let first : List ℕ × List ℕ = c.index-params-i.result in
      let less = Less-in_order c.args.params.now (c.loop-i.i - 1) c.loop-i.i first rising (omega arith) here in
      let next = get_or_default c.args.params.now c.loop-i.i c.index-params-i-in-loop-i.result first here in
      absurd (not_less c.cmp.result (sym c.ne.ensures ∙ c.if-ne.true)
      (c.cmp.ensures ∙ (ap (λ (q : List ℕ × List ℕ). cmp (get_or c.args.params.now (c.loop-i.i - 1) first).0 q.0) next ∙ less))),
)

pub returns : goal.returns
returns c = (
  λ _. in_order-from_adjacent c.args.params.now (λ k d below. c.loop-i.invariant k d (omega arith)),
  λ _. refl,
)
