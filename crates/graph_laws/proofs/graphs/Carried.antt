-- The graph of a stack fits on where its rows keep their names and their places in chains: `graph_carried`.
use Rattle.std.proofs.Common.{◌≡◌, ◌≢◌, ◌<◌, ◌≤◌, ◌⊎◌, inl, inr, ℕ, List, None, Option, Some, refl, sym, ap, ◌∙◌, subst}
use Rattle.heat_plan.specs.declared.phase.Act.TheVariants.{Delete, Init}
use Rattle.traversal_graph.specs.declared.shape.Node.{Node}
use Rattle.traversal_graph.specs.declared.shape.Node.TheVariants.{C, U}
use Rattle.row_table.specs.Chains.{IsLast, ends, goes}
use Rattle.row_table.specs.Rows.{row_at}
use Rattle.row_table.specs.declared.row.Row.{Row}
use Rattle.sync_points.specs.declared.point.Input.{Input}
use Rattle.core_state.specs.Reads.{IsDone}
use Rattle.core_state.specs.State.{StateData}
use Rattle.core_state.specs.declared.graph.Graph.{Graph}
use Rattle.core_state.specs.declared.stack.Stack.{Stack}
use Rattle.step_relation.specs.Targets.{IsCurrentOf, IsTarget, of_u, renewed}
use Rattle.step_relation.specs.GraphFits.{Aims, EdgesFit, GraphFits, InputsFit, IsInput, IsNode, Stands, Sweeps, TargetFits}
use Rattle.step_relation.specs.GraphFits.{TargetsFit, of_c as of_clean_up, of_u as of_update}
use Rattle.step_relation.specs.Linked.{Chained}
use Rattle.step_relation.specs.Numbered.{row_of}
use Rattle.history_laws.proofs.tables.Rows.{row-key, same_some}
use Rattle.history_laws.proofs.tables.Targets.{target_once}

-- what graphs read of a row of a stack whose newest traversal is this one
pub record Onward (trav : ℕ) (o a : Row) : Type 0 where
  pub no_ : a.no ≡ o.no
  pub stack : a.stack ≡ o.stack
  pub name : a.name ≡ o.name
  pub replaced_by : a.replaced_by ≡ o.replaced_by
  pub newest : o.trav ≡ trav → a.trav ≡ trav
  pub old : a.trav ≢ trav → a.act ≢ Init → (o.trav ≢ trav) × (o.act ≢ Init)
  pub kept : a.act ≢ Delete → o.act ≢ Delete

pub Onward-same : (trav : ℕ) (r : Row) → Onward trav r r
Onward-same trav r = record {
  no_ = refl;
  stack = refl;
  name = refl;
  replaced_by = refl;
  newest = λ e. e;
  old = λ e act. (e, act);
  kept = λ e. e;
}

-- the target o of the node at a place stays
pub record Stays (t : StateData) (st : Stack) (g : Graph) (i : ℕ) (o : Row) : Type 0 where
  pub row : Row
  pub found : row_at t.rows o.no ≡ Some row
  pub onward : Onward st.trav o row
  pub kept : row.act ≢ Delete
  pub facts : IsDone g i → row.facts ≡ o.facts

-- from one state to another a stack's rows keep what its graph reads; rows may go that are no target
pub record Carries (s t : StateData) (st : Stack) (g : Graph) : Type 0 where
  pub were : (n : ℕ) (a : Row) → row_at t.rows n ≡ Some a → a.stack ≡ st.name
      → (o : Row) × (row_at s.rows n ≡ Some o) × Onward st.trav o a
  pub theirs : (i : ℕ) (node : Node) (a : Row) → IsNode g i node → row_at t.rows (row_of node) ≡ Some a
      → a.stack ≡ st.name
  pub targets : (i n : ℕ) (name : List ℕ) (o : Row) → IsNode g i (U name n) → TargetFits s st name n o
      → Stays t st g i o

-- a current row to which the chosen row leads, if that stands, is the node's target
pub aims_at : (rows : List Row) (stack name : List ℕ) (n : ℕ) (a : Row) → IsCurrentOf rows stack name a
    → ((q : Row) → row_at rows n ≡ Some q → (n ≡ a.no) ⊎ ((q.replaced_by ≡ Some a.no) × (n < a.no)))
    → IsTarget rows stack (U name n) a.no
aims_at rows stack name n a is on = by (row_at rows n) refl where
  last : IsLast rows a
  last m q by up at = let none = is.current.last in cc

  by : (o : Option Row) → row_at rows n ≡ o → IsTarget rows stack (U name n) a.no
  by None none = renewed name n a none is
  by (Some q) at = elim (on q at) [
    | inl same ↦ subst (λ (k : ℕ). IsTarget rows stack (U name k) a.no) (sym same)
        (of_u name a.no a.no (ends a.no a is.found last))
    | inr up ↦ of_u name n a.no (goes n a.no a.no q at up.0 up.1 (ends a.no a is.found last))
  ]

-- a target that fits is aimed at
pub aims_of : (s : StateData) (st : Stack) (g : Graph) (i n : ℕ) (name : List ℕ) (r : Row) → IsNode g i (U name n)
    → TargetFits s st name n r → Aims s st g i name r
aims_of s st g i n name r at f = record { chosen = n; node = at; to = f.to; found = f.is.found }

-- and what is aimed at fits
pub aims_fits : (s : StateData) (st : Stack) (g : Graph) → TargetsFit s st g → (i : ℕ) (name : List ℕ) (r : Row)
    → (k : Aims s st g i name r) → TargetFits s st name k.chosen r
aims_fits s st g f i name r k =
    let (q, fits) = f.updates i k.chosen name k.node in
    let same : r.no ≡ q.no = target_once s.rows st.name (U name k.chosen) r.no q.no k.to fits.to in
    let is : r ≡ q = same_some r q k.found (subst (λ (x : ℕ). row_at s.rows x ≡ Some q) (sym same) fits.is.found) in
    subst (λ (x : Row). TargetFits s st name k.chosen x) (sym is) fits

module _ (s t : StateData) (st : Stack) (g : Graph) (chained : Chained s.rows) (c : Carries s t st g) where
  target_then : (i n : ℕ) (name : List ℕ) (o : Row) → IsNode g i (U name n) → TargetFits s st name n o
      → (k : Stays t st g i o) → TargetFits t st name n k.row
  target_then i n name o at f k =
      record { to = aims_at t.rows st.name name n k.row is up; is = is; from = from; kept = k.kept } where
        number : o.no ≡ k.row.no
        number = sym k.onward.no_

        is : IsCurrentOf t.rows st.name name k.row
        is = record {
          found = subst (λ (x : ℕ). row_at t.rows x ≡ Some k.row) number k.found;
          stack_is = k.onward.stack ∙ f.is.stack_is;
          name_is = k.onward.name ∙ f.is.name_is;
          current = record { kept = k.kept; last = k.onward.replaced_by ∙ f.is.current.last };
          greatest = λ m q at_q of called current.
              let (p, at_p, on) = c.were m q at_q of in
              let le : m ≤ o.no = f.is.greatest m p at_p (sym on.stack ∙ of) (sym on.name ∙ called)
              (record { kept = on.kept current.kept; last = sym on.replaced_by ∙ current.last }) in
              subst (λ (x : ℕ). m ≤ x) number le;
        }

        from : (q : Row) → row_at t.rows n ≡ Some q
            → (n ≡ k.row.no) ⊎ ((q.replaced_by ≡ Some k.row.no) × (k.row.trav ≡ st.trav))
        from q at_q =
            let (p, at_p, on) = c.were n q at_q (c.theirs i (U name n) q at at_q) in elim (f.from p at_p) [
              | inl same ↦ inl (same ∙ number)
              | inr by ↦ inr (on.replaced_by ∙ (by.0 ∙ ap Some number), k.onward.newest by.1)
            ]

        up : (q : Row) → row_at t.rows n ≡ Some q → (n ≡ k.row.no) ⊎ ((q.replaced_by ≡ Some k.row.no) × (n < k.row.no))
        up q at_q =
            let (p, at_p, on) = c.were n q at_q (c.theirs i (U name n) q at at_q) in elim (f.from p at_p) [
              | inl same ↦ inl (same ∙ number)
              | inr by ↦ inr (
                on.replaced_by ∙ (by.0 ∙ ap Some number),
                subst (λ (x : ℕ). n < x) number (chained.rises n o.no p at_p by.0),
              )
            ]

  aims_then : TargetsFit s st g → (i : ℕ) (name : List ℕ) (r : Row) → Aims s st g i name r
      → (k : Stays t st g i r) × Aims t st g i name k.row
  aims_then f i name r a =
      let fits = aims_fits s st g f i name r a in
      let k = c.targets i a.chosen name r a.node fits in
      (k, aims_of t st g i a.chosen name k.row a.node (target_then i a.chosen name r a.node fits k))

  -- a clean-up node's row was there, with this name
  swept : (i : ℕ) (a : Row) → Sweeps t g i a → (o : Row) × Sweeps s g i o × (a.name ≡ o.name)
  swept i a k =
      let (o, at, on) = c.were a.no a k.found (c.theirs i (C a.no) a k.node k.found) in (
        o,
        record {
          node = subst (λ (x : ℕ). IsNode g i (C x)) on.no_ k.node;
          found = subst (λ (x : ℕ). row_at s.rows x ≡ Some o) on.no_ at;
        },
        on.name,
      )

  edges_then : EdgesFit s st g → EdgesFit t st g
  edges_then f = record {
    needed = f.needed;
    needs = f.needs;
    behind = λ i k n r at k_is. let (o, was, called) = swept k r k_is in
        f.behind i k n o (subst (λ (x : List ℕ). IsNode g i (U x n)) called at) was;
  }

  targets_then : TargetsFit s st g → TargetsFit t st g
  targets_then f = record {
    updates = λ i n name at. let (o, fits) = f.updates i n name at in
        let k = c.targets i n name o at fits in (k.row, target_then i n name o at fits k);
    cleanups = λ i r k. c.theirs i (C r.no) r k.node k.found;
    rows = rows;
    old = λ n a at is other begun. let (o, was, on) = c.were n a at is in
        f.old n o was (sym on.stack ∙ is) (on.old other begun).0 (on.old other begun).1;
  } where
    rows : (n : ℕ) (a : Row) → row_at t.rows n ≡ Some a → a.stack ≡ st.name
        → ((i : ℕ) × Aims t st g i a.name a) ⊎ ((i : ℕ) × IsNode g i (C n))
    rows n a at is =
        let (o, was, on) = c.were n a at is in elim (f.rows n o was (sym on.stack ∙ is)) [
          | inl (i, aims) ↦
              let (k, then) = aims_then f i o.name o aims in
              let same : k.row ≡ a = same_some k.row a k.found
              (subst (λ (x : ℕ). row_at t.rows x ≡ Some a) (sym (row-key s.rows n o was)) at) in
              inl (
                i,
                subst (λ (x : Row). Aims t st g i a.name x) same
                    (subst (λ (x : List ℕ). Aims t st g i x k.row) (sym on.name) then),
              )
          | inr there ↦ inr there
        ]

  input_then : TargetsFit s st g → (x : Input) → IsDone g x.from → IsInput s st g x → IsInput t st g x
  input_then f x done (of_update name r aims called row facts) =
      let (k, then) = aims_then f x.from name r aims in
      of_update name k.row then called (row ∙ sym k.onward.no_) (facts ∙ sym (k.facts done))
  input_then f x done (of_clean_up n at called row facts) = of_clean_up n at called row facts

  inputs_then : TargetsFit s st g → InputsFit s st g → InputsFit t st g
  inputs_then f h = record {
    ready = h.ready;
    stand = λ i p x at has. let k : Stands s st g i x = h.stand i p x at has in
        record { edge = k.edge; done = k.done; its = input_then f x k.done k.its };
    given = h.given;
    once = h.once;
  }

  pub graph_carried : GraphFits s st g → GraphFits t st g
  graph_carried f = record {
    nodes = f.nodes;
    edges = edges_then f.edges;
    targets = targets_then f.targets;
    inputs = inputs_then f.targets f.inputs;
  }
