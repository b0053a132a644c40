use Rattle.std.proofs.Common.{◌≡◌, false, true}
use Rattle.heat_value.specs.Meaning.{members_of}
use Rattle.hot_admit.specs.Valuing.{FindsOne}
use Rattle.hot_admit.proofs.Adding.{AreFoundTo}
use Rattle.hot_admit.proofs.condition_values.find_in_order.Given as goal

-- the conditions at the places so far were found; without any find the values are as they were, with one there are more
abbrev pub invariant-loop-place : goal.invariant-loop-place
invariant-loop-place l =
    AreFoundTo l.params (members_of l.conds) l.order l.initial.values.items l.place-index l.values.items
    × (l.any ≡ false → l.values.items ≡ l.initial.values.items)
    × (l.any ≡ true → FindsOne (members_of l.conds) l.initial.values.items l.values.items)
    × (l.waiting ≡ l.initial.waiting)
