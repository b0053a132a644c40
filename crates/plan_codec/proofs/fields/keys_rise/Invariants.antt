use Rattle.std.proofs.Common.{◌≡◌, ℕ, ◌+◌, ◌<◌, slice_index_or}
use Rattle.std.specs.Ordering.{nat_cmp}
use Rattle.std.specs.Cmp.Lexicographic.{slice_cmp}
use Rattle.std.specs.declared.cmp.Ordering.TheVariants.{Less}
use Rattle.heat_value.specs.declared.value.Member.{Member}
use Rattle.plan_codec.proofs.fields.keys_rise.Given as goal

-- each key so far is below the next
abbrev pub invariant-loop-i : goal.invariant-loop-i
invariant-loop-i l =
    (k : ℕ) (d : Member) → k + 1 < l.i → slice_cmp nat_cmp (slice_index_or l.members k d).key (slice_index_or l.members (k + 1) d).key ≡ Less
