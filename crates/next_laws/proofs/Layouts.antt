-- What a command lays out is one: the rows that it chooses, those that stand, the graph and its leaves.
use Rattle.std.proofs.Common.{◌≡◌, ℕ, ◌+◌, List, map, refl, sym, subst}
use Rattle.heat_plan.specs.declared.item.Item.{Item}
use Rattle.traversal_graph.specs.Nodes.{IsBuilt}
use Rattle.traversal_graph.specs.declared.shape.TravGraph.{TravGraph}
use Rattle.dep_graph.specs.Lists.{ListsAll}
use Rattle.row_table.specs.Rows.{row_key}
use Rattle.row_table.specs.declared.row.Row.{Row}
use Rattle.core_state.specs.State.{StateData}
use Rattle.history_laws.specs.Commands.{AreRowsOf, Chooses, IsLeaf, Lays, brief_of, current, fresh, none}
use Rattle.history_laws.proofs.tables.Targets.{current_once}
use Rattle.next_laws.specs.OneTurn.{LayoutIsOne}
use Rattle.next_laws.proofs.Graphs.{graph_one}
use Rattle.next_laws.proofs.Listings.{listing_one, rising_one}

chooses_one : (s : StateData) (stack : List ℕ) (trav next : ℕ) (items : List Item) (xs ys : List ℕ)
    (rows others : List Row)
    → Chooses s stack trav next items xs rows → Chooses s stack trav next items ys others → (xs ≡ ys) × (rows ≡ others)
chooses_one s stack trav next items xs ys rows others (none _) (none _) = (refl, refl)
chooses_one s stack trav next items xs ys rows others (current _ item more r chosen _ is on)
    (current _ _ _ q chosen' _ is' on') =
    let rest : (chosen ≡ chosen') × (rows ≡ others) =
    chooses_one s stack trav next more chosen chosen' rows others on on' in
    let number : r.no ≡ q.no = current_once s.rows stack item.name r q is is' in
    let tail : chosen ≡ chosen' = rest.0 in (cc, rest.1)
chooses_one s stack trav next items xs ys rows others (current _ item more r chosen _ is on)
    (fresh _ _ _ chosen' rows' none_is on') =
    absurd (none_is r.no r is.found is.stack_is is.name_is is.current)
chooses_one s stack trav next items xs ys rows others (fresh _ item more chosen rows' none_is on)
    (current _ _ _ q chosen' _ is on') =
    absurd (none_is q.no q is.found is.stack_is is.name_is is.current)
chooses_one s stack trav next items xs ys rows others (fresh _ item more chosen rows' none_is on)
    (fresh _ _ _ chosen' others' none_is' on') =
    let rest : (chosen ≡ chosen') × (rows' ≡ others') =
    chooses_one s stack trav (next + 1) more chosen chosen' rows' others' on on' in
    let tail : chosen ≡ chosen' = rest.0 in let tails : rows' ≡ others' = rest.1 in (cc, cc)

standing_one : (rows : List Row) (stack : List ℕ) (a b : List Row) → AreRowsOf rows stack a
    → AreRowsOf rows stack b → a ≡ b
standing_one rows stack a b h i = rising_one row_key a b h.rising i.rising
    (λ r c. let (found, of) = h.only r c in i.each r.no r found of)
    (λ r c. let (found, of) = i.only r c in h.each r.no r found of)

module _ (s : StateData) (name : List ℕ) (items : List Item) (k q : Lays s name items) where
  choice : (k.chosen ≡ q.chosen) × (k.rows ≡ q.rows)
  choice = chooses_one s name s.next.trav s.next.row items k.chosen q.chosen k.rows q.rows k.chooses q.chooses

  pub rows_same : k.rows ≡ q.rows
  rows_same = choice.1

  pub graphs_same : k.graph ≡ q.graph
  graphs_same = graph_one items k.chosen k.standing k.standing_are.rising k.graph q.graph k.built
      (subst (λ (l : List Row). IsBuilt items k.chosen (map brief_of l) q.graph)
      (sym (standing_one s.rows name k.standing q.standing k.standing_are q.standing_are))
      (subst (λ (l : List ℕ). IsBuilt items l (map brief_of q.standing) q.graph) (sym choice.0) q.built))

  pub leaves_same : k.leaves ≡ q.leaves
  leaves_same = listing_one (IsLeaf k.graph) k.leaves q.leaves k.leaves_are
      (subst (λ (g : TravGraph). ListsAll (IsLeaf g) q.leaves) (sym graphs_same) q.leaves_are)

pub layout_one : LayoutIsOne
layout_one s name items it k q =
    let rows : k.rows ≡ q.rows = rows_same s name items k q in
    let graphs : k.graph ≡ q.graph = graphs_same s name items k q in
    let leaves : k.leaves ≡ q.leaves = leaves_same s name items k q in
    (cc, cc)
