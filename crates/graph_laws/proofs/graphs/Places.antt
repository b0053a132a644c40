-- The nodes of a graph by their places: those of items, then those of rows; and fresh points.
use Rattle.std.proofs.Common.{◌≡◌, ℕ, zero, suc, ◌+◌, false, List, [], ◌∷◌, ◌++◌, Some, refl, sym, ap, ◌∙◌, subst}
use Rattle.std.proofs.Common.{arith}
use Rattle.std.specs.Prelude.{length, slice_get}
use Rattle.heat_plan.specs.declared.item.Item.{Item}
use Rattle.traversal_graph.specs.Nodes.{cleanup_nodes, update_nodes}
use Rattle.traversal_graph.specs.declared.brief.RowBrief.{RowBrief}
use Rattle.traversal_graph.specs.declared.shape.Node.{Node}
use Rattle.traversal_graph.specs.declared.shape.Node.TheVariants.{C, U}
use Rattle.sync_points.specs.declared.point.Point.{Point}
use Rattle.core_state.specs.Graphs.{fresh_points}

some_inner : {A : Type 0} (x y : A) → Some x ≡ Some y → x ≡ y
some_inner x y e = cc

-- the node at a place is that of an item, or that of a row
pub data NodeAt (items : List Item) (chosen : List ℕ) (rows : List RowBrief) (i : ℕ) (node : Node) : Type 0 where
  of_item : (item : Item) (c : ℕ) → slice_get items i ≡ Some item → slice_get chosen i ≡ Some c → node ≡ U item.name c
      → NodeAt items chosen rows i node
  of_row : (r : ℕ) (row : RowBrief) → i ≡ length items + r → slice_get rows r ≡ Some row → node ≡ C row.no
      → NodeAt items chosen rows i node

cleanup_at : (rows : List RowBrief) (r : ℕ) (node : Node) → slice_get (cleanup_nodes rows) r ≡ Some node
    → (row : RowBrief) × (slice_get rows r ≡ Some row) × (node ≡ C row.no)
cleanup_at [] r node at = cc
cleanup_at (row ∷ rows) zero node at = (row, refl, sym (some_inner (C row.no) node at))
cleanup_at (row ∷ rows) (suc r) node at = cleanup_at rows r node at

pub node_at : (items : List Item) (chosen : List ℕ) (rows : List RowBrief) → length chosen ≡ length items
    → (i : ℕ) (node : Node)
    → slice_get (update_nodes items chosen ++ cleanup_nodes rows) i ≡ Some node → NodeAt items chosen rows i node
node_at [] [] rows same i node at = let (row, at_r, is) = cleanup_at rows i node at in
    let e : i ≡ 0 + i = omega arith in of_row i row e at_r is
node_at [] (c ∷ chosen) rows same i node at = absurd (omega arith)
node_at (x ∷ items) [] rows same i node at = absurd (omega arith)
node_at (x ∷ items) (c ∷ chosen) rows same zero node at = of_item x c refl refl (sym (some_inner (U x.name c) node at))
node_at (x ∷ items) (c ∷ chosen) rows same (suc i) node at =
    by (node_at items chosen rows (omega arith) i node at) where
      by : NodeAt items chosen rows i node → NodeAt (x ∷ items) (c ∷ chosen) rows (suc i) node
      by (of_item item n at_i at_n is) = of_item item n at_i at_n is
      by (of_row r row e at_r is) = of_row r row (omega (arith, e)) at_r is

pub item_node : (items : List Item) (chosen : List ℕ) (rows : List RowBrief) (i : ℕ) (item : Item) (c : ℕ)
    → slice_get items i ≡ Some item
    → slice_get chosen i ≡ Some c → slice_get (update_nodes items chosen ++ cleanup_nodes rows) i ≡ Some (U item.name c)
item_node [] chosen rows i item c at at_c = cc
item_node (x ∷ items) [] rows i item c at at_c = cc
item_node (x ∷ items) (n ∷ chosen) rows zero item c at at_c =
    let is = some_inner x item at in let number = some_inner n c at_c in
    ap (λ (y : Item). Some (U y.name n)) is ∙ ap (λ (m : ℕ). Some (U item.name m)) number
item_node (x ∷ items) (n ∷ chosen) rows (suc i) item c at at_c = item_node items chosen rows i item c at at_c

cleanup_node : (rows : List RowBrief) (r : ℕ) (row : RowBrief) → slice_get rows r ≡ Some row
    → slice_get (cleanup_nodes rows) r ≡ Some (C row.no)
cleanup_node [] r row at = cc
cleanup_node (x ∷ rows) zero row at = ap (λ (y : RowBrief). Some (C y.no)) (some_inner x row at)
cleanup_node (x ∷ rows) (suc r) row at = cleanup_node rows r row at

pub row_node : (items : List Item) (chosen : List ℕ) (rows : List RowBrief) → length chosen ≡ length items
    → (r : ℕ) (row : RowBrief)
    → slice_get rows r ≡ Some row
    → slice_get (update_nodes items chosen ++ cleanup_nodes rows) (length items + r) ≡ Some (C row.no)
row_node [] [] rows same r row at =
    let e : r ≡ 0 + r = omega arith in
    subst (λ (m : ℕ). slice_get (cleanup_nodes rows) m ≡ Some (C row.no)) e (cleanup_node rows r row at)
row_node [] (c ∷ chosen) rows same r row at = absurd (omega arith)
row_node (x ∷ items) [] rows same r row at = absurd (omega arith)
row_node (x ∷ items) (c ∷ chosen) rows same r row at =
    let e : suc (length items + r) ≡ length (x ∷ items) + r = omega arith in
    subst (λ (m : ℕ). slice_get (U x.name c ∷ (update_nodes items chosen ++ cleanup_nodes rows)) m ≡ Some (C row.no)) e
    (row_node items chosen rows (omega arith) r row at)

-- a fresh point has no input and isn't done
abbrev pub fresh_point : List ℕ → ℕ → Point
fresh_point stack i = record { stack = stack; node = i; inputs = []; done = false }

pub fresh_is : (stack : List ℕ) (place : ℕ) (nodes : List Node) (i : ℕ) (p : Point)
    → slice_get (fresh_points stack place nodes) i ≡ Some p
    → p ≡ fresh_point stack (place + i)
fresh_is stack place [] i p at = cc
fresh_is stack place (x ∷ nodes) zero p at =
    let e : place ≡ place + 0 = omega arith in
    sym (some_inner (fresh_point stack place) p at) ∙ ap (fresh_point stack) e
fresh_is stack place (x ∷ nodes) (suc i) p at =
    let e : place + 1 + i ≡ place + suc i = omega arith in
    fresh_is stack (place + 1) nodes i p at ∙ ap (fresh_point stack) e

pub fresh_there : (stack : List ℕ) (place : ℕ) (nodes : List Node) (i : ℕ) (node : Node) → slice_get nodes i ≡ Some node
    → slice_get (fresh_points stack place nodes) i ≡ Some (fresh_point stack (place + i))
fresh_there stack place [] i node at = cc
fresh_there stack place (x ∷ nodes) zero node at = let e : place ≡ place + 0 = omega arith in
    ap (λ (n : ℕ). Some (fresh_point stack n)) e
fresh_there stack place (x ∷ nodes) (suc i) node at =
    let e : place + 1 + i ≡ place + suc i = omega arith in
    fresh_there stack (place + 1) nodes i node at ∙ ap (λ (n : ℕ). Some (fresh_point stack n)) e
