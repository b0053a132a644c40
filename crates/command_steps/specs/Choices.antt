-- Which row each item of a command takes.
use Rattle.std.specs.Prelude.{Bool, List, None, Option, Some, [], cond, false, map, slice_set, true, ℕ, ◌+◌, ◌∷◌}
use Rattle.std.specs.Str.{bytes_eq}
use Rattle.heat_plan.specs.declared.item.Item.{Item}
use Rattle.heat_plan.specs.declared.phase.Act.{Act}
use Rattle.heat_plan.specs.declared.phase.Act.TheVariants.{Create, Delete, Init, Rollback, Update}
use Rattle.traversal_graph.specs.Candidates.{place_of}
use Rattle.row_table.specs.declared.row.Row.{Row}
use Rattle.step_relation.specs.Rows.{new_row}

abbrev pub is_kept : Act → Bool
is_kept Delete = false
is_kept Init = true
is_kept Create = true
is_kept Update = true
is_kept Rollback = true

abbrev pub has_none : Option ℕ → Bool
has_none None = true
has_none (Some n) = false

-- the row isn't at DELETE, and nothing replaced it
abbrev pub is_current : Row → Bool
is_current r = cond (is_kept r.act) (has_none r.replaced_by) false

-- the row is the current one of this name
abbrev pub stands_for : Row → List ℕ → Bool
stands_for r name = cond (is_current r) (bytes_eq r.name name) false

-- the first of two numbers, where there is one
abbrev pub or_else : Option ℕ → Option ℕ → Option ℕ
or_else (Some n) other = Some n
or_else None other = other

-- the last row that is current of this name
abbrev pub last_for : List Row → List ℕ → Option ℕ
last_for [] name = None
last_for (r ∷ rows) name = or_else (last_for rows name) (cond (stands_for r name) (Some r.no) None)

-- of each item the current row, and none where one is to be made
abbrev pub found_for : List Row → List Item → List (Option ℕ)
found_for rows items = map (λ (i : Item). last_for rows i.name) items

-- this row noted for the item of its name, if it is current
abbrev pub noted : List Item → Row → List (Option ℕ) → List (Option ℕ)
noted items r found = cond (is_current r) (slice_set found (place_of items r.name) (Some r.no)) found

-- how many rows are to be made
abbrev pub lacking : List (Option ℕ) → ℕ
lacking [] = 0
lacking (Some n ∷ found) = lacking found
lacking (None ∷ found) = lacking found + 1

-- the numbers of the items' rows, the new ones from a number on
abbrev pub numbered : ℕ → List (Option ℕ) → List ℕ
numbered next [] = []
numbered next (Some n ∷ found) = n ∷ numbered next found
numbered next (None ∷ found) = next ∷ numbered (next + 1) found

-- the rows that are made
abbrev pub rows_made : List ℕ → ℕ → ℕ → List Item → List (Option ℕ) → List Row
rows_made stack trav next [] found = []
rows_made stack trav next (item ∷ items) [] = []
rows_made stack trav next (item ∷ items) (Some n ∷ found) = rows_made stack trav next items found
rows_made stack trav next (item ∷ items) (None ∷ found) =
    new_row stack trav next item ∷ rows_made stack trav (next + 1) items found
