-- Keys in byte order.
use Rattle.std.specs.Prelude.{ℕ, List}
use Rattle.std.specs.Ordering.{nat_cmp}
use Rattle.std.specs.Cmp.Lexicographic.{slice_cmp}
use Rattle.std.specs.List.Sorted.{IsStrictlySortedBy}

-- keys in byte order, each once
abbrev pub Rising : List (List ℕ) → Type 0
Rising keys = IsStrictlySortedBy (slice_cmp nat_cmp) keys
