-- A layout's graph is that of the numbers that are drawn, whichever the graph was built with.
use Rattle.std.proofs.Common.{◌≡◌, ◌∙◌, ◌≤◌, ◌+◌, ◌++◌, ◌^◌, ℕ, suc, List, [], ◌∷◌, Option, Some, None, length, map, refl, sym, ap, arith}
use Rattle.std.proofs.lemmas.List.{length-append, length-map}
use Rattle.dep_graph.specs.Lists.{ListsAll}
use Rattle.heat_plan.specs.declared.item.Item.{Item}
use Rattle.traversal_graph.specs.Nodes.{IsBuilt, cleanup_nodes, update_nodes}
use Rattle.traversal_graph.specs.declared.brief.RowBrief.{RowBrief}
use Rattle.traversal_graph.specs.declared.shape.Node.{Node}
use Rattle.traversal_graph.specs.declared.shape.TravGraph.{TravGraph}
use Rattle.row_table.specs.declared.row.Row.{Row}
use Rattle.core_state.specs.State.{StateData}
use Rattle.step_relation.specs.Commands.{AreRowsOf, IsLeaf, brief_of}
use Rattle.command_steps.specs.Choices.{found_for, lacking, numbered, rows_made}
use Rattle.command_steps.specs.Layouts.{IsLaidOut}
use Rattle.command_steps.specs.declared.layout.Layout.{Layout}
use Rattle.command_steps.proofs.Found.{chooses}

length-update_nodes : (items : List Item) (chosen : List ℕ) → length chosen ≡ length items
    → length (update_nodes items chosen) ≡ length items
length-update_nodes [] chosen is = refl
length-update_nodes (i ∷ items) [] is = absurd (omega (arith, is))
length-update_nodes (i ∷ items) (n ∷ chosen) is = ap suc (length-update_nodes items chosen (omega (arith, is)))

pub length-numbered : (next : ℕ) (found : List (Option ℕ)) → length (numbered next found) ≡ length found
length-numbered next [] = refl
length-numbered next (Some n ∷ found) = ap suc (length-numbered next found)
length-numbered next (None ∷ found) = ap suc (length-numbered (next + 1) found)

pub length-rows_made : (stack : List ℕ) (trav next : ℕ) (items : List Item) (found : List (Option ℕ))
    → length found ≡ length items
    → length (rows_made stack trav next items found) ≡ lacking found
length-rows_made stack trav next [] [] is = refl
length-rows_made stack trav next [] (o ∷ found) is = absurd (omega (arith, is))
length-rows_made stack trav next (i ∷ items) [] is = absurd (omega (arith, is))
length-rows_made stack trav next (i ∷ items) (Some n ∷ found) is =
    length-rows_made stack trav next items found (omega (arith, is))
length-rows_made stack trav next (i ∷ items) (None ∷ found) is =
    omega (arith, length-rows_made stack trav (next + 1) items found (omega (arith, is)))

module _ (items : List Item) (chosen other : List ℕ) (briefs : List RowBrief) (graph : TravGraph)
    (many : length chosen ≡ length items) (too : length other ≡ length items)
    (built : IsBuilt items chosen briefs graph) where
  -- the same graph with other numbers of rows
  abbrev renumbered : TravGraph
  renumbered = record graph { nodes = update_nodes items other ++ cleanup_nodes built.sorted }

  rebuilt : IsBuilt items other briefs renumbered
  rebuilt = record { sorted = built.sorted; rows_are = built.rows_are; nodes = refl; edges = built.edges }

  same_count : length renumbered.nodes ≡ length graph.nodes
  same_count =
      length-append (update_nodes items other) (cleanup_nodes built.sorted)
      ∙ ap (λ n. n + length (cleanup_nodes built.sorted))
      (length-update_nodes items other too ∙ sym (length-update_nodes items chosen many))
      ∙ sym (length-append (update_nodes items chosen) (cleanup_nodes built.sorted))
      ∙ ap length (sym built.nodes)

  same_leaves : (leaves : List ℕ) → ListsAll (IsLeaf graph) leaves → ListsAll (IsLeaf renumbered) leaves
  same_leaves leaves all = record {
    rising = all.rising;
    each = λ n. (
      λ c. let (lt, alone) = (all.each n).0 c in (omega (arith, lt, same_count), alone),
      λ (lt, alone). (all.each n).1 (omega (arith, lt, same_count), alone),
    );
  }

  same_graph : chosen ≡ other → renumbered ≡ graph
  same_graph is =
      ap (λ (nodes : List Node). record graph { nodes = nodes })
      (ap (λ c. update_nodes items c ++ cleanup_nodes built.sorted) (sym is) ∙ sym built.nodes)

pub laid_out_is : (s : StateData) (name : List ℕ) (items : List Item) (standing : List Row)
    → AreRowsOf s.rows name standing
    → (layout : Layout) → layout.found ≡ found_for standing items
    → (chosen : List ℕ) → length chosen ≡ length layout.found
    → (s.next.row + lacking layout.found ≤ 2 ^ 62 → chosen ≡ numbered s.next.row layout.found)
    → IsBuilt items chosen (map brief_of standing) layout.graph → ListsAll (IsLeaf layout.graph) layout.leaves
    → IsLaidOut s name items layout
laid_out_is s name items standing are layout found chosen many drawn built leaves =
    let count : length layout.found ≡ length items = ap length found ∙ length-map items _ in
    let next : List ℕ = numbered s.next.row layout.found in
    let enough : length next ≡ length items = length-numbered s.next.row layout.found ∙ count in
    record {
      lays = record {
        chosen = next;
        rows = rows_made name s.next.trav s.next.row items layout.found;
        chooses = rw found (chooses s name s.next.trav s.next.row standing are items);
        standing = standing;
        standing_are = are;
        graph = renumbered items chosen next (map brief_of standing) layout.graph (many ∙ count) enough built;
        built = rebuilt items chosen next (map brief_of standing) layout.graph (many ∙ count) enough built;
        leaves = layout.leaves;
        leaves_are =
            same_leaves items chosen next (map brief_of standing) layout.graph (many ∙ count) enough built
            layout.leaves leaves;
      };
      chosen_are = refl;
      rows_are = refl;
      each = count;
      many = length-rows_made name s.next.trav s.next.row items layout.found count;
      leaves_are = refl;
      graph_is = λ room. same_graph items chosen next (map brief_of standing) layout.graph (many ∙ count) enough built
          (drawn room);
    }
