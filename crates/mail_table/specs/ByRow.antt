-- How jobs are sorted by row and stack, and then by engine.
use Rattle.std.specs.Prelude.{ℕ, Bool, List}
use Rattle.std.specs.Ordering.{nat_cmp}
use Rattle.std.specs.declared.cmp.Ordering.{Ordering}
use Rattle.keyed_table.specs.Sortings.{text_cmp, pair_cmp, pair_same, pair_below}
use Rattle.mail_table.specs.declared.mail.Job.{Job}

-- the row and its stack
abbrev pub row_of : Job → ℕ × List ℕ
row_of j = (j.row, j.letter.stack)

-- the whole key
abbrev pub row_key : Job → (ℕ × List ℕ) × ℕ
row_key j = (row_of j, j.engine)

abbrev pub row_cmp : ℕ × List ℕ → ℕ × List ℕ → Ordering
row_cmp = pair_cmp nat_cmp text_cmp

abbrev pub row_same : (ℕ × List ℕ) × ℕ → (ℕ × List ℕ) × ℕ → Bool
row_same = pair_same row_cmp nat_cmp

abbrev pub row_below : (ℕ × List ℕ) × ℕ → (ℕ × List ℕ) × ℕ → Bool
row_below = pair_below row_cmp nat_cmp
