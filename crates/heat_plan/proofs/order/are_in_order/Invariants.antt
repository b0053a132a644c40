use Rattle.std.proofs.Common.{◌≡◌, ℕ, ◌+◌, ◌<◌, slice_index_or}
use Rattle.std.specs.Ordering.{nat_cmp}
use Rattle.std.specs.Cmp.Lexicographic.{slice_cmp}
use Rattle.std.specs.declared.cmp.Ordering.TheVariants.{Less}
use Rattle.heat_plan.specs.declared.item.Item.{Item}
use Rattle.heat_plan.proofs.order.are_in_order.Given as goal

-- each item so far comes before the next
abbrev pub invariant-loop-i : goal.invariant-loop-i
invariant-loop-i l =
    (k : ℕ) (d : Item) → k + 1 < l.i → slice_cmp nat_cmp (slice_index_or l.items k d).name (slice_index_or l.items (k + 1) d).name ≡ Less
