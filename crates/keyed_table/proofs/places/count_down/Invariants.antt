use Rattle.std.proofs.Common.{◌≡◌, ◌<◌, ◌≤◌, ℕ, length}
use Rattle.std.specs.Prelude.{slice_index}
use Rattle.keyed_table.specs.Orders.{closed}
use Rattle.keyed_table.proofs.places.count_down.Given as goal

abbrev pub invariant-loop-i : goal.invariant-loop-i
invariant-loop-i l =
    (length l.places.items ≡ length l.fn.places.items)
    × ((k : ℕ) → k < l.i → slice_index l.places.items k ≡ closed l.gone (slice_index l.fn.places.items k))
    × ((k : ℕ) → l.i ≤ k → slice_index l.places.items k ≡ slice_index l.fn.places.items k)
    × (l.places.spare ≡ l.fn.places.spare)
