use Rattle.std.proofs.Common.{◌≡◌, ℕ, List, ◌+◌, ◌<◌, get_or}
use Rattle.std.specs.declared.cmp.Ordering.TheVariants.{Less}
use Rattle.hot_strings.proofs.Rises.{cmp}
use Rattle.hot_strings.proofs.keys.keys_rise.Given as goal

-- each key so far is below the next
abbrev pub invariant-loop-i : goal.invariant-loop-i
invariant-loop-i l = (k : ℕ) (d : List ℕ × List ℕ) → k + 1 < l.i → cmp (get_or l.params k d).0 (get_or l.params (k + 1) d).0 ≡ Less
