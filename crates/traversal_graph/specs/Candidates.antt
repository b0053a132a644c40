-- The candidates for edges: four lists, by the places of items and of rows.
use Rattle.std.specs.Prelude.{ℕ, ◌+◌, ◌==◌, Bool, false, cond, List, [], ◌∷◌, ◌++◌, length, map, nat_lt}
use Rattle.std.specs.Option.{option_map_or}
use Rattle.std.specs.List.{list_any, position_or_len}
use Rattle.std.specs.Str.{bytes_eq}
use Rattle.heat_plan.specs.declared.item.Item.{Item}
use Rattle.traversal_graph.specs.declared.brief.RowBrief.{RowBrief}

-- the lists for each item of a list and its place, from a place on
abbrev pub each_from : {A : Type 0} → ℕ → List A → (ℕ → A → List (ℕ × ℕ)) → List (ℕ × ℕ)
each_from place [] list = []
each_from place (x ∷ xs) list = list place x ++ each_from (place + 1) xs list

-- the lists for each item of a list and its place
abbrev pub each : {A : Type 0} → List A → (ℕ → A → List (ℕ × ℕ)) → List (ℕ × ℕ)
each xs list = each_from 0 xs list

-- an edge where the test passes
abbrev pub edge_if : Bool → ℕ → ℕ → List (ℕ × ℕ)
edge_if passes before after = cond passes ((before, after) ∷ []) []

-- an edge from a node to each of the nodes
abbrev pub edges_out : ℕ → List ℕ → List (ℕ × ℕ)
edges_out before nodes = map (λ (after : ℕ). (before, after)) nodes

-- an edge from each of the nodes to a node
abbrev pub edges_in : List ℕ → ℕ → List (ℕ × ℕ)
edges_in nodes after = map (λ (before : ℕ). (before, after)) nodes

-- the place of the item of this name
abbrev pub place_of : List Item → List ℕ → ℕ
place_of items name = position_or_len (λ (i : Item). bytes_eq name i.name) items

-- 1. from each item that an item needs to that item
abbrev pub needs_into : List Item → ℕ → Item → List (ℕ × ℕ)
needs_into items place item =
    each item.needs
    (λ (_ : ℕ) (need : List ℕ). edge_if (nat_lt (place_of items need) (length items)) (place_of items need) place)

abbrev pub need_edges : List Item → List (ℕ × ℕ)
need_edges items = each items (needs_into items)

-- 2. from an item to each row of its name
abbrev pub rows_behind : ℕ → List RowBrief → ℕ → Item → List (ℕ × ℕ)
rows_behind first rows place item =
    each rows (λ (r : ℕ) (row : RowBrief). edge_if (bytes_eq row.name item.name) place (first + r))

abbrev pub row_edges : List Item → List RowBrief → List (ℕ × ℕ)
row_edges items rows = each items (rows_behind (length items) rows)

-- 3. from a row to each row that it requires
abbrev pub required_behind : ℕ → List RowBrief → ℕ → RowBrief → List (ℕ × ℕ)
required_behind first rows r row =
    each rows
    (λ (q : ℕ) (other : RowBrief). edge_if (list_any (λ no. no == other.no) row.requires_) (first + r) (first + q))

abbrev pub require_edges : ℕ → List RowBrief → List (ℕ × ℕ)
require_edges first rows = each rows (required_behind first rows)

-- 4. from a row to the row that it replaces
abbrev pub replaced_behind : ℕ → List RowBrief → ℕ → RowBrief → List (ℕ × ℕ)
replaced_behind first rows r row =
    each rows
    (λ (q : ℕ) (other : RowBrief).
    edge_if (option_map_or (λ no. no == other.no) row.replaces false) (first + r) (first + q))

abbrev pub replace_edges : ℕ → List RowBrief → List (ℕ × ℕ)
replace_edges first rows = each rows (replaced_behind first rows)

-- all of them, in the order in which they are considered
abbrev pub candidates : List Item → List RowBrief → List (ℕ × ℕ)
candidates items rows =
    need_edges items ++ row_edges items rows ++ require_edges (length items) rows ++ replace_edges (length items) rows
