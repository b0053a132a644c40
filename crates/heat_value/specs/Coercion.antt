-- The text that a value stands for where a text is wanted.
use Rattle.std.specs.Prelude.{ℕ, List, []}
use Rattle.heat_value.specs.Compact.{compact}
use Rattle.heat_value.specs.Data.{Data, null, flag, whole, words, items, fields}

-- nothing for null, a text itself, and else compact JSON
abbrev pub coerced : Data → List ℕ
coerced null = []
coerced (words s) = s
coerced (flag b) = compact (flag b)
coerced (whole z) = compact (whole z)
coerced (items ns) = compact (items ns)
coerced (fields ms) = compact (fields ms)
