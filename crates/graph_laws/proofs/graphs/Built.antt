-- The graph that a command draws fits its plan and the rows that it leaves: `graph_built`.
use Rattle.std.proofs.Common.{◌≡◌, ◌≢◌, ◌<◌, ◌≤◌, ◌⊎◌, inl, inr, ℕ, ◌+◌, Bool, false, true, List, [], Some, refl, sym}
use Rattle.std.proofs.Common.{ap, ◌∙◌, subst, arith}
use Rattle.std.specs.Prelude.{AllPairs, Contains, length, slice_get}
use Rattle.std.specs.Str.{bytes_eq}
use Rattle.std.proofs.lemmas.Slice.Eq.{bytes_eq-Decides}
use Rattle.heat_plan.specs.Order.{Rising}
use Rattle.heat_plan.specs.Plans.{names_of}
use Rattle.heat_plan.specs.declared.item.Item.{Item}
use Rattle.heat_plan.specs.declared.phase.Status.TheVariants.{InProgress}
use Rattle.heat_plan.specs.declared.phase.Act.TheVariants.{Delete, Init}
use Rattle.traversal_graph.specs.Builds.{Joins}
use Rattle.traversal_graph.proofs.NodeLemmas.{length-nodes}
use Rattle.traversal_graph.specs.declared.brief.RowBrief.{RowBrief}
use Rattle.traversal_graph.specs.declared.shape.Node.{Node}
use Rattle.traversal_graph.specs.declared.shape.Node.TheVariants.{C, U}
use Rattle.row_table.specs.Chains.{IsCurrent}
use Rattle.row_table.specs.Rows.{row_at}
use Rattle.row_table.specs.declared.row.Row.{Row}
use Rattle.sync_points.specs.declared.point.Input.{Input}
use Rattle.sync_points.specs.declared.point.Point.{Point}
use Rattle.core_state.specs.Changes.{fresh_graph}
use Rattle.core_state.specs.Reads.{IsDone, item_at}
use Rattle.core_state.specs.State.{StateData}
use Rattle.core_state.specs.declared.graph.Graph.{Graph}
use Rattle.core_state.specs.declared.stack.Stack.{Stack}
use Rattle.step_relation.specs.Commands.{Lays, Sets, brief_of, stack_set}
use Rattle.step_relation.specs.Freshness.{plan_of}
use Rattle.step_relation.specs.Rows.{new_row}
use Rattle.step_relation.specs.Targets.{HasNoCurrent, IsCurrentOf}
use Rattle.history_laws.specs.edges.Laws.{FitsPlan}
use Rattle.history_laws.proofs.edges.ItemNames.{name_once}
use Rattle.history_laws.proofs.edges.Ranks.{edges_fit}
use Rattle.step_relation.specs.GraphFits.{Aims, GraphFits, InputsFit, IsNode, Needs, NodesFit, Sweeps, TargetFits}
use Rattle.step_relation.specs.GraphFits.{TargetsFit}
use Rattle.step_relation.specs.Sound.{Standing}
use Rattle.history_laws.proofs.tables.Rows.{row-key, same_some}
use Rattle.history_laws.proofs.tables.Tables.{at-place, at-some}
use Rattle.history_laws.proofs.edges.Keeping.{nothing}
use Rattle.graph_laws.proofs.graphs.Carried.{aims_at, aims_of}
use Rattle.graph_laws.proofs.graphs.Chosen.{ChosenFor, IsNewAt, chosen_for, lengths, new_found, newly, old_stays, put_rows}
use Rattle.graph_laws.proofs.graphs.Chosen.{stood}
use Rattle.graph_laws.proofs.graphs.Lists.{contained, contains_at}
use Rattle.graph_laws.proofs.graphs.Ordered.{Asked}
use Rattle.graph_laws.proofs.graphs.Placed.{item_named}
use Rattle.graph_laws.proofs.graphs.Places.{NodeAt, fresh_is, fresh_point, fresh_there, item_node, node_at, of_item, of_row}
use Rattle.graph_laws.proofs.graphs.Places.{row_node}
use Rattle.graph_laws.proofs.graphs.Sorts.{contains_map, row_sorted, sorted_once, sorted_row}

init_is_kept : Init ≢ Delete
init_is_kept e = cc

-- the item at a place is found by its name
pub item_asked : (items : List Item) → Rising (names_of items) → (i : ℕ) (item : Item) → slice_get items i ≡ Some item
    → item_at items item.name ≡ Some item
item_asked items rising i item at =
    let (y, found) = at-some bytes_eq bytes_eq-Decides (λ (j : Item). j.name) items i item at in
    let (k, there) = at-place bytes_eq (λ (j : Item). j.name) items item.name y found in
    let places : i ≡ k = name_once items rising i k item y at there (sym (item_named items item.name y found)) in
    found ∙ ap Some (same_some y item (subst (λ (p : ℕ). slice_get items p ≡ Some y) (sym places) there) at)

-- names and numbers of nodes
u_inner : (x y : List ℕ) (n m : ℕ) → U x n ≡ U y m → (x ≡ y) × (n ≡ m)
u_inner x y n m e = (cc, cc)

c_inner : (n m : ℕ) → C n ≡ C m → n ≡ m
c_inner n m e = cc

u_is_no_c : (x : List ℕ) (n m : ℕ) → U x n ≡ C m → ⊥
u_is_no_c x n m e = cc

-- an update node's item, and a clean-up node's row
record UpdateAt (items : List Item) (chosen : List ℕ) (i n : ℕ) (word : List ℕ) : Type 0 where
  item : Item
  asked : slice_get items i ≡ Some item
  number : slice_get chosen i ≡ Some n
  called : item.name ≡ word

record CleanupAt (s : StateData) (name : List ℕ) (items : List Item) (sorted : List RowBrief) (i n : ℕ) : Type 0 where
  r : ℕ
  row : Row
  place : i ≡ length items + r
  listed : slice_get sorted r ≡ Some (brief_of row)
  found : row_at s.rows row.no ≡ Some row
  stack : row.stack ≡ name
  number : row.no ≡ n

module _ (s : StateData) (h : Standing s) (name : List ℕ) (items : List Item) (it : Sets) (k : Lays s name items)
    (asked : Asked items it)
    (t : StateData) (same : t.rows ≡ put_rows k.rows s.rows) where
  abbrev st : Stack
  st = stack_set s name it InProgress

  abbrev g : Graph
  g = fresh_graph name k.graph

  abbrev sorted : List RowBrief
  sorted = k.built.sorted

  abbrev trav : ℕ
  trav = s.next.trav

  fits : FitsPlan items sorted k.graph.edges
  fits = edges_fit items sorted k.graph.edges asked.rising asked.acyclic k.built.edges

  same_length : length k.chosen ≡ length items
  same_length = lengths s name trav s.next.row items k.chosen k.rows k.chooses

  node_of : (i : ℕ) (node : Node) → IsNode g i node → NodeAt items k.chosen sorted i node
  node_of i node at = node_at items k.chosen sorted same_length i node
      (subst (λ (ns : List Node). slice_get ns i ≡ Some node) k.built.nodes at)

  item_there : (i : ℕ) (item : Item) (c : ℕ) → slice_get items i ≡ Some item → slice_get k.chosen i ≡ Some c
      → IsNode g i (U item.name c)
  item_there i item c at at_c = subst (λ (ns : List Node). slice_get ns i ≡ Some (U item.name c)) (sym k.built.nodes)
      (item_node items k.chosen sorted i item c at at_c)

  row_there : (n : ℕ) (q : Row) → row_at s.rows n ≡ Some q → q.stack ≡ name → (i : ℕ) × IsNode g i (C n)
  row_there n q at of =
      let (r, at_r) = row_sorted s.rows name k.standing k.standing_are sorted k.built.rows_are n q at of in (
        length items + r,
        subst (λ (m : ℕ). IsNode g (length items + r) (C m)) (row-key s.rows n q at)
            (subst (λ (ns : List Node). slice_get ns (length items + r) ≡ Some (C q.no)) (sym k.built.nodes)
            (row_node items k.chosen sorted same_length r (brief_of q) at_r)),
      )

  update_at : (i n : ℕ) (word : List ℕ) → IsNode g i (U word n) → UpdateAt items k.chosen i n word
  update_at i n word at = by (node_of i (U word n) at) where
    by : NodeAt items k.chosen sorted i (U word n) → UpdateAt items k.chosen i n word
    by (of_item item c at_i at_c is) = let (called, number) = u_inner word item.name n c is in
        record { item = item; asked = at_i; number = at_c ∙ ap Some (sym number); called = sym called }
    by (of_row r row place at_r is) = absurd (u_is_no_c word n row.no is)

  cleanup_at : (i n : ℕ) → IsNode g i (C n) → CleanupAt s name items sorted i n
  cleanup_at i n at = by (node_of i (C n) at) where
    by : NodeAt items k.chosen sorted i (C n) → CleanupAt s name items sorted i n
    by (of_item item c at_i at_c is) = absurd (u_is_no_c item.name c n (sym is))
    by (of_row r b place at_r is) =
        let (q, brief, found, of) = sorted_row s.rows name k.standing k.standing_are sorted k.built.rows_are r b at_r in
        record {
          r = r;
          row = q;
          place = place;
          listed = at_r ∙ ap Some brief;
          found = found;
          stack = of;
          number = ap (λ (x : RowBrief). x.no) (sym brief) ∙ sym (c_inner n b.no is);
        }

  -- rows: those that stood stand, and the others are new
  found_then : (n : ℕ) (a : Row) → row_at t.rows n ≡ Some a
      → (row_at s.rows n ≡ Some a) ⊎ ((s.next.row ≤ n) × ((i : ℕ) × IsNewAt s name trav items k.chosen i n a))
  found_then n a at = new_found s name trav s.next.row items k.chosen k.rows s.rows k.chooses n a
      (subst (λ (rows : List Row). row_at rows n ≡ Some a) same at)

  stands : (n : ℕ) (a : Row) → row_at s.rows n ≡ Some a → row_at t.rows n ≡ Some a
  stands n a at = subst (λ (rows : List Row). row_at rows n ≡ Some a) (sym same)
      (old_stays s name trav s.next.row items k.chosen k.rows s.rows k.chooses n lt ∙ at) where
        lt : n < s.next.row
        lt = let e = row-key s.rows n a at in let b = (h.links.numbered.rows n a at).no_ in omega arith

  its_row : (i : ℕ) (a : Row) → Sweeps t g i a → CleanupAt s name items sorted i a.no
  its_row i a sweeps = cleanup_at i a.no sweeps.node

  row_is : (i : ℕ) (a : Row) (sweeps : Sweeps t g i a) → a ≡ (its_row i a sweeps).row
  row_is i a sweeps = let c = its_row i a sweeps in
      same_some a c.row sweeps.found
      (subst (λ (m : ℕ). row_at t.rows m ≡ Some c.row) c.number (stands c.row.no c.row c.found))

  new_name : (n i : ℕ) (a : Row) → (w : IsNewAt s name trav items k.chosen i n a) → a.name ≡ w.item.name
  new_name n i a w = ap (λ (x : Row). x.name) w.is

  -- the target of an item's node
  module _ (i : ℕ) (item : Item) (c : ℕ) (at_i : slice_get items i ≡ Some item)
      (at_c : slice_get k.chosen i ≡ Some c) where
    target_new : HasNoCurrent s.rows name item.name → row_at t.rows c ≡ Some (new_row name trav c item)
        → TargetFits t st item.name c (new_row name trav c item)
    target_new no_current there = record {
      to = aims_at t.rows name item.name c (new_row name trav c item) is (λ q at. inl refl);
      is = is;
      from = λ q at. inl refl;
      kept = init_is_kept;
    } where
      by : (m : ℕ) (q : Row) → (row_at s.rows m ≡ Some q)
          ⊎ ((s.next.row ≤ m) × ((j : ℕ) × IsNewAt s name trav items k.chosen j m q))
          → q.stack ≡ name → q.name ≡ item.name → IsCurrent q → m ≤ c
      by m q (inl was) of called current = absurd (no_current m q was of called current)
      by m q (inr (le, (j, w))) of called current =
          let place : j ≡ i = name_once items asked.rising j i w.item item w.asked at_i
          (sym (new_name m j q w) ∙ called) in
          let number : m ≡ c = same_some m c (subst (λ (x : ℕ). slice_get k.chosen x ≡ Some m) place w.number) at_c in
          omega (arith, number)

      is : IsCurrentOf t.rows name item.name (new_row name trav c item)
      is = record {
        found = there;
        stack_is = refl;
        name_is = refl;
        current = record { kept = init_is_kept; last = refl };
        greatest = λ m q at of called current. by m q (found_then m q at) of called current;
      }

    target_stood : (r : Row) → IsCurrentOf s.rows name item.name r → c ≡ r.no → TargetFits t st item.name c r
    target_stood r old e = record {
      to = aims_at t.rows name item.name c r is (λ q at. inl e);
      is = is;
      from = λ q at. inl e;
      kept = old.current.kept;
    } where
      by : (m : ℕ) (q : Row) → (row_at s.rows m ≡ Some q)
          ⊎ ((s.next.row ≤ m) × ((j : ℕ) × IsNewAt s name trav items k.chosen j m q))
          → q.stack ≡ name → q.name ≡ item.name → IsCurrent q → m ≤ r.no
      by m q (inl was) of called current = old.greatest m q was of called current
      by m q (inr (le, (j, w))) of called current =
          absurd (w.no_current r.no r old.found old.stack_is
          (old.name_is ∙ (sym called ∙ new_name m j q w)) old.current)

      is : IsCurrentOf t.rows name item.name r
      is = record {
        found = stands r.no r old.found;
        stack_is = old.stack_is;
        name_is = old.name_is;
        current = old.current;
        greatest = λ m q at of called current. by m q (found_then m q at) of called current;
      }

    target_for : ChosenFor s name trav s.next.row (put_rows k.rows s.rows) item c
        → (a : Row) × TargetFits t st item.name c a
    target_for (stood r is e) = (r, target_stood r is e)
    target_for (newly none le there) = (
      new_row name trav c item,
      target_new none (subst (λ (rows : List Row). row_at rows c ≡ Some (new_row name trav c item)) (sym same) there),
    )

  choice : (i : ℕ) (item : Item) → slice_get items i ≡ Some item
      → (c : ℕ) × (slice_get k.chosen i ≡ Some c) × ChosenFor s name trav s.next.row (put_rows k.rows s.rows) item c
  choice i item at = chosen_for s name trav s.next.row items k.chosen k.rows s.rows k.chooses i item at

  targets : (i n : ℕ) (word : List ℕ) → IsNode g i (U word n) → (a : Row) × TargetFits t st word n a
  targets i n word at =
      let u = update_at i n word at in
      let (c, at_c, for) = choice i u.item u.asked in
      let number : c ≡ n = same_some c n at_c u.number in
      let (a, f) = target_for i u.item c u.asked at_c for in (
        a,
        subst (λ (x : List ℕ). TargetFits t st x n a) u.called
            (subst (λ (m : ℕ). TargetFits t st u.item.name m a) number f),
      )

  targets_fit : TargetsFit t st g
  targets_fit = record {
    updates = targets;
    cleanups = λ i a sweeps. ap (λ (x : Row). x.stack) (row_is i a sweeps) ∙ (its_row i a sweeps).stack;
    rows = λ n a at is. rows n a at (found_then n a at) is;
    old = λ n a at is past act. old n a (found_then n a at) is past;
  } where
    rows : (n : ℕ) (a : Row) → row_at t.rows n ≡ Some a
        → (row_at s.rows n ≡ Some a) ⊎ ((s.next.row ≤ n) × ((i : ℕ) × IsNewAt s name trav items k.chosen i n a))
        → a.stack ≡ name
        → ((i : ℕ) × Aims t st g i a.name a) ⊎ ((i : ℕ) × IsNode g i (C n))
    rows n a at (inl was) is = inr (row_there n a was is)
    rows n a at (inr (le, (i, w))) is =
        let there : row_at t.rows n ≡ Some (new_row name trav n w.item) = at ∙ ap Some w.is in
        inl (
          i,
          subst (λ (x : Row). Aims t st g i x.name x) (sym w.is)
              (aims_of t st g i n w.item.name (new_row name trav n w.item) (item_there i w.item n w.asked w.number)
              (target_new i w.item n w.asked w.number w.no_current there)),
        )

    old : (n : ℕ) (a : Row) → (row_at s.rows n ≡ Some a)
        ⊎ ((s.next.row ≤ n) × ((i : ℕ) × IsNewAt s name trav items k.chosen i n a))
        → a.stack ≡ name → a.trav ≢ trav → (i : ℕ) × IsNode g i (C n)
    old n a (inl was) is past = row_there n a was is
    old n a (inr (le, (i, w))) is past = absurd (past (ap (λ (x : Row). x.trav) w.is))

  -- the plan's items
  planned : (item : Item) → Contains (plan_of st.plan).items item → Contains items item
  planned item c = subst (λ (l : List Item). Contains l item) asked.its c

  nodes_fit : NodesFit st g
  nodes_fit = record {
    named = refl;
    acyclic = fits.acyclic;
    items = λ item c. let (i, at) = contained items item (planned item c) in
        let (n, at_n, _) = choice i item at in (i, n, item_there i item n at at_n);
    only_items = λ i n word at. let u = update_at i n word at in
        subst (λ (l : List Item). Contains (names_of l) word) (sym asked.its)
        (subst (Contains (names_of items)) u.called
        (contains_map (λ (x : Item). x.name) items u.item (contains_at items i u.item u.asked)));
    one_update = λ i j n m word at_i at_j. let u = update_at i n word at_i in let v = update_at j m word at_j in
        name_once items asked.rising i j u.item v.item u.asked v.asked (u.called ∙ sym v.called);
    one_cleanup = λ i j n at_i at_j. let u = cleanup_at i n at_i in let v = cleanup_at j n at_j in
        u.place ∙ (ap (λ (m : ℕ). length items + m)
        (sorted_once s.rows name k.standing k.standing_are sorted k.built.rows_are u.r v.r
        (brief_of u.row) (brief_of v.row) u.listed v.listed (u.number ∙ sym v.number)) ∙ sym v.place);
    points = λ i node at. record {
      point = fresh_point name (0 + i);
      there = fresh_there name 0 k.graph.nodes i node at;
      stack = refl;
      node = omega arith;
    };
    ends = λ i j edge. (
      subst (λ (m : ℕ). i < m) size (fits.ends i j edge).0,
      subst (λ (m : ℕ). j < m) size (fits.ends i j edge).1,
    );
  } where
    size : length items + length sorted ≡ length k.graph.nodes
    size = length-nodes items k.chosen sorted k.graph.nodes same_length k.built.nodes

  needed : (i j n m : ℕ) (word need : List ℕ) → IsNode g j (U word n) → IsNode g i (U need m) → Needs st word need
      → Joins k.graph.edges i j
  needed i j n m word need at_j at_i of =
      let u = update_at i m need at_i in let v = update_at j n word at_j in
      let found : item_at items word ≡ Some of.item =
      subst (λ (l : List Item). item_at l word ≡ Some of.item) asked.its of.asked in
      let here : item_at items word ≡ Some v.item = subst (λ (x : List ℕ). item_at items x ≡ Some v.item) v.called
      (item_asked items asked.rising j v.item v.asked) in
      let is : of.item ≡ v.item = same_some of.item v.item found here in
      fits.needed i j u.item v.item u.asked v.asked
      (subst (Contains v.item.needs) (sym u.called) (subst (λ (x : Item). Contains x.needs need) is of.among))

  needs : (i j n : ℕ) (word : List ℕ) → IsNode g j (U word n) → Joins k.graph.edges i j
      → (need : List ℕ) × (m : ℕ) × IsNode g i (U need m) × Needs st word need
  needs i j n word at_j edge =
      let v = update_at j n word at_j in
      let (item, at, has) = fits.needs i j v.item v.asked edge in
      let (m, at_m, _) = choice i item at in
      let here : item_at items word ≡ Some v.item = subst (λ (x : List ℕ). item_at items x ≡ Some v.item) v.called
      (item_asked items asked.rising j v.item v.asked) in (
        item.name,
        m,
        item_there i item m at at_m,
        record {
          item = v.item;
          asked = subst (λ (l : List Item). item_at l word ≡ Some v.item) (sym asked.its) here;
          among = has;
        },
      )

  behind : (i j n : ℕ) (r : Row) → IsNode g i (U r.name n) → Sweeps t g j r → Joins k.graph.edges i j
  behind i j n r at_i sweeps =
      let u = update_at i n r.name at_i in let c = its_row j r sweeps in
      let called : c.row.name ≡ u.item.name = ap (λ (x : Row). x.name) (sym (row_is j r sweeps)) ∙ sym u.called in
      subst (λ (m : ℕ). Joins k.graph.edges i m) (sym c.place)
      (fits.behind i c.r u.item (brief_of c.row) u.asked c.listed called)

  undone : (i : ℕ) → ¬ IsDone g i
  undone i d = clash (ap (λ (p : Point). p.done) (fresh_is name 0 k.graph.nodes i d.point d.there)) d.done where
    clash : {b : Bool} → b ≡ false → b ≡ true → ⊥
    clash e f = cc

  no_inputs : (i : ℕ) (p : Point) → slice_get g.points i ≡ Some p → p.inputs ≡ []
  no_inputs i p at = ap (λ (q : Point). q.inputs) (fresh_is name 0 k.graph.nodes i p at)

  inputs_fit : InputsFit t st g
  inputs_fit = record {
    ready = λ i d. absurd (undone i d);
    stand = λ i p x at has. absurd (nothing x (subst (λ (l : List Input). Contains l x) (no_inputs i p at) has));
    given = λ i a edge d. absurd (undone a d);
    once = λ i p at. subst (AllPairs (λ (x y : Input). x.from ≢ y.from)) (sym (no_inputs i p at)) none;
  } where
    none : AllPairs (λ (x y : Input). x.from ≢ y.from) []
    none i j d lt within = absurd (omega (arith, within))

  pub graph_built : GraphFits t st g
  graph_built = record {
    nodes = nodes_fit;
    edges = record { needed = needed; needs = needs; behind = behind };
    targets = targets_fit;
    inputs = inputs_fit;
  }
