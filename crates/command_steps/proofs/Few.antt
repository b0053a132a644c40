-- A rollback that is due draws no more numbers than there may be rows.
use Rattle.std.proofs.Common.{◌≡◌, ◌∙◌, ◌≤◌, ◌+◌, ℕ, zero, suc, eqb, List, [], ◌∷◌, Some, length, get_or, map, refl, sym, ap, subst, arith}
use Rattle.std.specs.Prelude.{Contains}
use Rattle.std.specs.Cmp.{IsEquivalence}
use Rattle.std.specs.List.{IsDistinct}
use Rattle.std.proofs.lemmas.Bool.{eqb-true, eq-eqb, ne_eqb}
use Rattle.std.proofs.lemmas.Bool.Decides.{nat_tests}
use Rattle.std.proofs.lemmas.List.{length-append, length-map}
use Rattle.std.proofs.lemmas.List.Elements.{Contains-get_or}
use Rattle.std.proofs.lemmas.List.Sorted.{length_permutation}
use Rattle.std.proofs.lemmas.Map.Keys.{IsDistinct-from_apart}
use Rattle.std.proofs.lemmas.Map.Made.{length-le_from_is_member}
use Rattle.std.proofs.lemmas.Map.Views.{Contains-from_any, list_any-from_Contains}
use Rattle.std.proofs.lemmas.Option.{same_Some}
use Rattle.heat_plan.specs.declared.item.Item.{Item}
use Rattle.dep_graph.specs.Lists.{IsRising, ListsAll}
use Rattle.dep_graph.proofs.ClosingLemmas.{length-le_distinct}
use Rattle.traversal_graph.specs.Nodes.{IsBuilt, cleanup_nodes, update_nodes}
use Rattle.traversal_graph.specs.declared.brief.RowBrief.{RowBrief}
use Rattle.traversal_graph.specs.declared.shape.Node.TheVariants.{C}
use Rattle.traversal_graph.specs.declared.shape.TravGraph.{TravGraph}
use Rattle.row_table.specs.Rows.{row_key}
use Rattle.row_table.specs.declared.row.Row.{Row}
use Rattle.core_state.specs.State.{StateData, stack_at}
use Rattle.core_state.specs.declared.change.Change.{Change}
use Rattle.core_state.specs.declared.entry.Actor.TheVariants.{Engine}
use Rattle.core_state.specs.declared.entry.Entry.{Entry}
use Rattle.core_state.specs.declared.stack.Stack.{Stack}
use Rattle.step_relation.specs.Commands.{AreRowsOf, Chooses, IsLeaf, brief_of, current, fresh, none}
use Rattle.step_relation.specs.Orders.{plan_back, rollback_sets, row_limit}
use Rattle.step_relation.specs.Turns.{FollowsFailure, IsWorn}
use Rattle.step_reads.proofs.Tables.{row-among}
use Rattle.command_steps.specs.Layouts.{HasNumbers}
use Rattle.command_steps.proofs.Lasting.{unworn_laid}

-- numbers that rise differ
distinct : (xs : List ℕ) → IsRising xs → IsDistinct eqb xs
distinct xs up = IsDistinct-from_apart eqb xs
    (λ i j d lt inside. ne_eqb (get_or xs i d) (get_or xs j d) (λ e. absurd (omega (arith, up i j d lt inside, e))))

flips : (x y : ℕ) → eqb x y ≡ eqb y x
flips x y = grind (arith, nat_tests)

laws : IsEquivalence eqb
laws = record {
  refl = λ x. eq-eqb x x refl;
  symm = flips;
  congr = λ x y z e. ap (λ (n : ℕ). eqb n z) (eqb-true x y e);
}

-- a row's key stands among the keys, and each key is a row's
key_among : (rows : List Row) (r : Row) → Contains rows r → Contains (map row_key rows) r.no
key_among [] r (k, lt, e) = absurd (omega arith)
key_among (x ∷ rows) r (zero, lt, e) = (0, omega arith, ap row_key e)
key_among (x ∷ rows) r (suc k, lt, e) =
    let h = key_among rows r (k, omega arith, e) in
    (suc h.0, omega (arith, h.1), h.2)

row_of : (rows : List Row) (n : ℕ) → Contains (map row_key rows) n → (r : Row) × Contains rows r × (r.no ≡ n)
row_of [] n (k, lt, e) = absurd (omega arith)
row_of (x ∷ rows) n (zero, lt, e) = (x, (0, omega arith, refl), e)
row_of (x ∷ rows) n (suc k, lt, e) =
    let h = row_of rows n (k, omega arith, e) in
    (h.0, (suc h.1.0, omega (arith, h.1.1), h.1.2), h.2)

-- a stack has no more rows than stand
rows_few : (rows : List Row) (stack : List ℕ) (standing : List Row) → AreRowsOf rows stack standing
    → length standing ≤ length rows
rows_few rows stack standing k =
    let le = length-le_from_is_member laws (map row_key standing) (map row_key rows) (distinct (map row_key standing) k.rising)
    (λ n t. list_any-from_Contains laws n (map row_key rows) (there n (Contains-from_any eqb-true n (map row_key standing) t))) in
    omega (arith, le, length-map standing row_key, length-map rows row_key)
  where
    there : (n : ℕ) → Contains (map row_key standing) n → Contains (map row_key rows) n
    there n c =
        let h = row_of standing n c in
        subst (Contains (map row_key rows)) h.2 (key_among rows h.0 (row-among rows h.0.no h.0 (k.only h.0 h.1).0))

-- no more leaves than nodes
leaves_few : (graph : TravGraph) (leaves : List ℕ) → ListsAll (IsLeaf graph) leaves → length leaves ≤ length graph.nodes
leaves_few graph leaves h =
    length-le_distinct leaves (length graph.nodes) (distinct leaves h.rising)
    (λ k d lt. ((h.each (get_or leaves k d)).0 (Contains-get_or leaves k d lt)).0)

-- no more nodes than items and rows
updates_few : (items : List Item) (chosen : List ℕ) → length (update_nodes items chosen) ≤ length items
updates_few [] chosen = omega arith
updates_few (i ∷ items) [] = omega arith
updates_few (i ∷ items) (n ∷ chosen) = omega (arith, updates_few items chosen)

nodes_few : (items : List Item) (chosen : List ℕ) (standing : List Row) (graph : TravGraph)
    → IsBuilt items chosen (map brief_of standing) graph → length graph.nodes ≤ length items + length standing
nodes_few items chosen standing graph k = omega (
  arith,
  ap length k.nodes,
  length-append (update_nodes items chosen) (cleanup_nodes k.sorted),
  updates_few items chosen,
  length-map k.sorted (λ (row : RowBrief). C row.no),
  length_permutation (map brief_of standing) k.sorted k.rows_are.same,
  length-map standing brief_of,
)

-- no more new rows than items
made_few : (s : StateData) (stack : List ℕ) (trav next : ℕ) (items : List Item) (chosen : List ℕ) (rows : List Row)
    → Chooses s stack trav next items chosen rows → length rows ≤ length items
made_few s stack trav next items chosen rows (none n) = omega arith
made_few s stack trav next items chosen rows (current n item its r ch rs is more) =
    omega (arith, made_few s stack trav n its ch rs more)
made_few s stack trav next items chosen rows (fresh n item its ch rs is more) =
    omega (arith, made_few s stack trav (n + 1) its ch rs more)

-- where so many numbers are left as there may be rows, a rollback within that limit wears nothing out
pub rollback_lasts : (s : StateData) (e : ℕ) (st marked : Stack) (cs : List Change) (es : List Entry)
    → HasNumbers s.next 0 row_limit row_limit → stack_at s.stacks st.name ≡ Some marked
    → length s.rows + length (plan_back s marked).items ≤ row_limit → FollowsFailure s e st cs es → ¬ IsWorn cs
rollback_lasts s e st marked cs es spare found room k w =
    unworn_laid s k.failed.name items (rollback_sets s k.failed (Engine e)) k.lays (record {
      stacks_fit = omega (arith, spare.stacks_fit);
      trav_fits = spare.trav_fits;
      rows_fit = omega (arith, spare.rows_fit, few, within);
      engine_fits = spare.engine_fits;
      letters_fit = omega (arith, spare.letters_fit, leaves, nodes, standing, within);
    }) (subst IsWorn k.changes w)
  where
    items : List Item
    items = (plan_back s k.failed).items

    within : length s.rows + length items ≤ row_limit
    within = subst (λ (x : Stack). length s.rows + length (plan_back s x).items ≤ row_limit)
        (same_Some marked k.failed (sym found ∙ k.is)) room

    few : length k.lays.rows ≤ length items
    few = made_few s k.failed.name s.next.trav s.next.row items k.lays.chosen k.lays.rows k.lays.chooses

    leaves : length k.lays.leaves ≤ length k.lays.graph.nodes
    leaves = leaves_few k.lays.graph k.lays.leaves k.lays.leaves_are

    nodes : length k.lays.graph.nodes ≤ length items + length k.lays.standing
    nodes = nodes_few items k.lays.chosen k.lays.standing k.lays.graph k.lays.built

    standing : length k.lays.standing ≤ length s.rows
    standing = rows_few s.rows k.failed.name k.lays.standing k.lays.standing_are
