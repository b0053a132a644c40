-- Which edges a graph leaves out.
use Rattle.std.specs.Prelude.{List, [], length, ℕ, ◌++◌, ◌⊎◌}
use Rattle.heat_plan.specs.declared.item.Item.{Item}
use Rattle.dep_graph.specs.Paths.{HasPath}
use Rattle.traversal_graph.specs.Builds.{Joins, Keeps}
use Rattle.traversal_graph.specs.Candidates.{candidates, need_edges, replace_edges, require_edges, row_edges}
use Rattle.traversal_graph.specs.declared.brief.RowBrief.{RowBrief}

-- of the candidates, from items, from names to rows and between rows, only one that would close a cycle is left out
abbrev pub OnlyCyclesAreLeftOut : Type 0
OnlyCyclesAreLeftOut = (items : List Item) (rows : List RowBrief) (edges : List (ℕ × ℕ)) (before after : ℕ)
    → Keeps [] (need_edges items ++ row_edges items rows
    ++ require_edges (length items) rows
    ++ replace_edges (length items) rows) edges
    → Joins (candidates items rows) before after
    → Joins edges before after ⊎ HasPath (Joins edges) after before
