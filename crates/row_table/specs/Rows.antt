-- How a list of rows is read and written by number.
use Rattle.std.specs.Prelude.{ℕ, List, Option, nat_eq}
use Rattle.heat_plan.specs.Tables.{at, put, cut}
use Rattle.row_table.specs.declared.row.Row.{Row}

-- a row's key
abbrev pub row_key : Row → ℕ
row_key r = r.no

-- the row of this number
abbrev pub row_at : List Row → ℕ → Option Row
row_at = at nat_eq row_key

-- a row written over the one of its number, or behind all others
abbrev pub put_row : Row → List Row → List Row
put_row = put nat_eq row_key

-- without the row of this number
abbrev pub cut_row : ℕ → List Row → List Row
cut_row = cut nat_eq row_key
