use Rattle.std.proofs.Common.{◌≡◌, ℕ, ◌+◌, ◌<◌, List, slice_index_or}
use Rattle.std.specs.Ordering.{nat_cmp}
use Rattle.std.specs.Cmp.Lexicographic.{slice_cmp}
use Rattle.std.specs.declared.cmp.Ordering.TheVariants.{Less}
use Rattle.heat_plan.proofs.needs.is_rising.Given as goal

-- each name so far is below the next
abbrev pub invariant-loop-i : goal.invariant-loop-i
invariant-loop-i l =
    (k : ℕ) (d : List ℕ) → k + 1 < l.i → slice_cmp nat_cmp (slice_index_or l.names k d) (slice_index_or l.names (k + 1) d) ≡ Less
