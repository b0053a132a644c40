-- The orders by which indexes are sorted, beside that of numbers: of texts, and of pairs.
use Rattle.std.specs.Prelude.{ℕ, Bool, List}
use Rattle.std.specs.Ordering.{nat_cmp, ordering_then, is_lt, is_eq}
use Rattle.std.specs.Cmp.Lexicographic.{slice_cmp}
use Rattle.std.specs.declared.cmp.Ordering.{Ordering}

-- how two texts compare
abbrev pub text_cmp : List ℕ → List ℕ → Ordering
text_cmp = slice_cmp nat_cmp

abbrev pub text_below : List ℕ → List ℕ → Bool
text_below a b = is_lt (text_cmp a b)

-- how two pairs compare: by the first parts, and then by the second ones
abbrev pub pair_cmp : {G H : Type 0} → (G → G → Ordering) → (H → H → Ordering) → G × H → G × H → Ordering
pair_cmp first second a b = ordering_then (first a.0 b.0) (second a.1 b.1)

abbrev pub pair_same : {G H : Type 0} → (G → G → Ordering) → (H → H → Ordering) → G × H → G × H → Bool
pair_same first second a b = is_eq (pair_cmp first second a b)

abbrev pub pair_below : {G H : Type 0} → (G → G → Ordering) → (H → H → Ordering) → G × H → G × H → Bool
pair_below first second a b = is_lt (pair_cmp first second a b)
