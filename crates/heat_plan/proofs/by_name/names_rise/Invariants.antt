use Rattle.std.proofs.Common.{◌≡◌, ℕ, ◌+◌, ◌<◌, slice_index_or}
use Rattle.std.specs.Ordering.{nat_cmp}
use Rattle.std.specs.Cmp.Lexicographic.{slice_cmp}
use Rattle.std.specs.declared.cmp.Ordering.TheVariants.{Less}
use Rattle.heat_plan.proofs.by_name.names_rise.Given as goal

-- each name so far is below the next
abbrev pub invariant-loop-i : goal.invariant-loop-i
invariant-loop-i g l = (k : ℕ) (d : g.row.T.Denot) → k + 1 < l.i
    → slice_cmp nat_cmp (g.T.HasName.name_of (slice_index_or l.list k d)) (g.T.HasName.name_of (slice_index_or l.list (k + 1) d)) ≡ Less
