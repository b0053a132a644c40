-- How rows are sorted by stack and name, and by stack, and then by number.
use Rattle.std.specs.Prelude.{ℕ, Bool, List}
use Rattle.std.specs.Ordering.{nat_cmp}
use Rattle.std.specs.declared.cmp.Ordering.{Ordering}
use Rattle.keyed_table.specs.Sortings.{text_cmp, pair_cmp, pair_below}
use Rattle.row_table.specs.declared.row.Row.{Row}

-- a row's stack, and with its name
abbrev pub stack_of : Row → List ℕ
stack_of r = r.stack

abbrev pub name_of : Row → List ℕ × List ℕ
name_of r = (r.stack, r.name)

-- the whole keys
abbrev pub stack_key : Row → List ℕ × ℕ
stack_key r = (stack_of r, r.no)

abbrev pub name_key : Row → (List ℕ × List ℕ) × ℕ
name_key r = (name_of r, r.no)

-- how a stack and a name compare
abbrev pub name_cmp : List ℕ × List ℕ → List ℕ × List ℕ → Ordering
name_cmp = pair_cmp text_cmp text_cmp

-- how the whole keys are sorted
abbrev pub stack_below : List ℕ × ℕ → List ℕ × ℕ → Bool
stack_below = pair_below text_cmp nat_cmp

abbrev pub name_below : (List ℕ × List ℕ) × ℕ → (List ℕ × List ℕ) × ℕ → Bool
name_below = pair_below name_cmp nat_cmp
