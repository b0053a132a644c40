-- Names in byte order.
use Rattle.std.specs.Prelude.{ℕ, List}
use Rattle.std.specs.Ordering.{nat_cmp}
use Rattle.std.specs.Cmp.Lexicographic.{slice_cmp}
use Rattle.std.specs.List.Sorted.{IsStrictlySortedBy}

-- names in byte order, each once
abbrev pub Rising : List (List ℕ) → Type 0
Rising names = IsStrictlySortedBy (slice_cmp nat_cmp) names
