-- A stack's mark fits where each row that failed in its traversal stays so, and none fails: `marks_stay`.
use Rattle.std.proofs.Common.{◌≡◌, inl, inr, ℕ, List, Some, None, refl, sym, ◌∙◌, subst}
use Rattle.std.specs.Prelude.{Contains, slice_get}
use Rattle.heat_plan.specs.Plans.{names_of}
use Rattle.heat_plan.specs.declared.phase.Act.TheVariants.{Delete}
use Rattle.heat_plan.specs.declared.phase.Status.TheVariants.{Failed}
use Rattle.heat_value.specs.declared.path.Step.{Step}
use Rattle.eval_words.specs.Resolve.{Fault}
use Rattle.traversal_graph.specs.declared.shape.Node.{Node}
use Rattle.traversal_graph.specs.declared.shape.Node.TheVariants.{C, U}
use Rattle.traversal_graph.specs.declared.shape.TravGraph.{TravGraph}
use Rattle.step_relation.specs.Resends.{IsOpen}
use Rattle.step_relation.specs.RowsFit.{Resolves}
use Rattle.row_table.specs.Chains.{IsCurrent}
use Rattle.row_table.specs.Rows.{cut_row, put_row, row_at}
use Rattle.row_table.specs.declared.row.Row.{Row}
use Rattle.core_state.specs.State.{StateData}
use Rattle.core_state.specs.declared.graph.Graph.{Graph}
use Rattle.core_state.specs.declared.stack.Stack.{Stack}
use Rattle.step_relation.specs.Freshness.{plan_of}
use Rattle.step_relation.specs.Targets.{IsCurrentOf}
use Rattle.step_relation.specs.GraphFits.{Aims, GraphFits, IsNode}
use Rattle.step_relation.specs.Linked.{OneCurrent}
use Rattle.step_relation.specs.MarkFits.{HasFailure, IsFailed, MarkFits, by_clean_up, by_plan, by_row}
use Rattle.graph_laws.proofs.graphs.Carried.{aims_fits, aims_of}
use Rattle.history_laws.proofs.tables.Rows.{row_cut, row_else, row_here, row_kept, row_put, row_self, same_or_not, same_some}
use Rattle.history_laws.proofs.tables.Targets.{same_current}

-- a row that the plan asks for, or one that is to go
pub data Counts (st : Stack) (r : Row) : Type 0 where
  wanted : IsCurrent r → Contains (names_of (plan_of st.plan).items) r.name → Counts st r
  leaves : r.act ≡ Delete → Counts st r

-- what a mark reads of a row that failed
pub record SameFailure (r a : Row) : Type 0 where
  pub no_ : a.no ≡ r.no
  pub stack : a.stack ≡ r.stack
  pub name : a.name ≡ r.name
  pub act : a.act ≡ r.act
  pub status : a.status ≡ r.status
  pub trav : a.trav ≡ r.trav
  pub replaced_by : a.replaced_by ≡ r.replaced_by

pub SameFailure-same : (r : Row) → SameFailure r r
SameFailure-same r = record {
  no_ = refl;
  stack = refl;
  name = refl;
  act = refl;
  status = refl;
  trav =
      refl;
  replaced_by = refl;
}

-- a row failed in the stack's newest traversal
pub record FailedNow (st : Stack) (r : Row) : Type 0 where
  pub stack : r.stack ≡ st.name
  pub status : r.status ≡ Failed
  pub newest : r.trav ≡ st.trav

-- from the rows before to those after
pub record RowsMark (st : Stack) (before after : List Row) : Type 0 where
  pub failing : (n : ℕ) (a : Row) → row_at after n ≡ Some a → FailedNow st a → st.status ≡ Failed
  pub stay : (n : ℕ) (r : Row) → row_at before n ≡ Some r → FailedNow st r → Counts st r → (a : Row) ×
      (row_at after n ≡ Some a) × SameFailure r a

-- a current row of a name in the graph is what the name's node aims at
pub aims_now : (t : StateData) (st : Stack) (g : Graph) → GraphFits t st g → OneCurrent t.rows → (i n : ℕ)
    (word : List ℕ) → IsNode g i (U word n)
    → (a : Row) → row_at t.rows a.no ≡ Some a → a.stack ≡ st.name → a.name ≡ word → IsCurrent a → Aims t st g i word a
aims_now t st g fits one i n word node a found is called current =
    let (q, f) = fits.targets.updates i n word node in
    let its : IsCurrentOf t.rows st.name word a = record {
      found = found;
      stack_is = is;
      name_is = called;
      current = current;
      greatest = λ m p at of named cur. one.newest a.no m a p found at (is ∙ sym of) (called ∙ sym named) current;
    } in
    let same : q ≡ a = same_current t.rows st.name word q a f.is its in
    subst (Aims t st g i word) same (aims_of t st g i n word q node f)

-- from one state to another, whose graph has the same nodes
module _ (s t : StateData) (st : Stack) (g g' : Graph) (same : g'.graph ≡ g.graph)
    (plan : (i : ℕ) (word : List ℕ) (n : ℕ) (code : List ℕ) (path : List Step) → IsNode g i (U word n)
    → Resolves st g i word (Fault code path)
    → IsOpen g i → Resolves st g' i word (Fault code path))
    (fits_s : GraphFits s st g) (fits : GraphFits t st g') (one : OneCurrent t.rows)
    (R : RowsMark st s.rows t.rows) where
  node_again : (i : ℕ) (node : Node) → IsNode g i node → IsNode g' i node
  node_again i node at = subst (λ (x : TravGraph). slice_get x.nodes i ≡ Some node) (sym same) at

  aims_again : (i : ℕ) (word : List ℕ) (r a : Row) → (k : Aims s st g i word r) → row_at t.rows r.no ≡ Some a
      → SameFailure r a → Aims t st g' i word a
  aims_again i word r a k at like =
      let f = aims_fits s st g fits_s.targets i word r k in
      aims_now t st g' fits one i k.chosen word (node_again i (U word k.chosen) k.node) a (row_self t.rows r.no a at)
      (like.stack ∙ f.is.stack_is) (like.name ∙ f.is.name_is)
      (record { kept = λ e. f.is.current.kept (sym like.act ∙ e); last = like.replaced_by ∙ f.is.current.last })

  pub failed_again : (i : ℕ) → IsOpen g i → IsFailed s st g i → IsFailed t st g' i
  failed_again i opened (by_row word r k status newest) =
      let f = aims_fits s st g fits_s.targets i word r k in
      let planned : Contains (names_of (plan_of st.plan).items) r.name =
      subst (Contains (names_of (plan_of st.plan).items)) (sym f.is.name_is)
      (fits_s.nodes.only_items i k.chosen word k.node) in
      let (a, at, like) = R.stay r.no r k.found (record {
        stack = f.is.stack_is;
        status = status;
        newest =
            newest;
      }) (wanted f.is.current planned) in
      by_row word a (aims_again i word r a k at like) (like.status ∙ status) (like.trav ∙ newest)
  failed_again i opened (by_clean_up r k act status newest) =
      let (a, at, like) = R.stay r.no r k.found (record {
        stack = fits_s.targets.cleanups i r k;
        status =
            status;
        newest = newest;
      }) (leaves act) in
      by_clean_up a (record {
        node = subst (λ (x : ℕ). IsNode g' i (C x)) (sym like.no_)
            (node_again i (C r.no) k.node);
        found = row_self t.rows r.no a at;
      })
      (like.act ∙ act) (like.status ∙ status) (like.trav ∙ newest)
  failed_again i opened (by_plan word n code path at fault) =
      by_plan word n code path (node_again i (U word n) at) (plan i word n code path at fault opened)

module _ (s t : StateData) (st : Stack) (g : Graph) (fits_s : GraphFits s st g) (fits : GraphFits t st g)
    (one : OneCurrent t.rows) (R : RowsMark st s.rows t.rows) where
  pub marks_stay : MarkFits s st g → MarkFits t st g
  marks_stay f = record {
    complete = f.complete;
    failing = λ n r at is status newest. R.failing n r at (record { stack = is; status = status; newest = newest });
    failed = λ status.
        let k : HasFailure s st g = f.failed status in record {
          i = k.i;
          open_ = k.open_;
          failed = failed_again s t st g g refl
              (λ i word n code path at fault opened. fault) fits_s fits one R k.i k.open_ k.failed;
        };
    act = f.act;
    deletes = f.deletes;
    proper = f.proper;
  }

-- kinds of writes
module _ (st : Stack) (rows : List Row) (old : (n : ℕ) (r : Row) → row_at rows n ≡ Some r → FailedNow st r
    → st.status ≡ Failed) where
  pub mark_same : RowsMark st rows rows
  mark_same = record { failing = old; stay = λ n r at now counts. (r, at, SameFailure-same r) }

  pub mark_put : (r q : Row) → row_at rows q.no ≡ Some r → (FailedNow st q → st.status ≡ Failed) →
      (FailedNow st r → Counts st r → SameFailure r q)
      → RowsMark st rows (put_row q rows)
  mark_put r q at new_ok old_ok = record { failing = failing; stay = stay } where
    failing : (n : ℕ) (a : Row) → row_at (put_row q rows) n ≡ Some a → FailedNow st a → st.status ≡ Failed
    failing n a at_n now = elim (row_put q rows at_n) [
      | inl new ↦ new_ok (subst (FailedNow st) (sym new.1) now)
      | inr was ↦ old n a was.1 now
    ]

    stay : (n : ℕ) (o : Row) → row_at rows n ≡ Some o → FailedNow st o → Counts st o → (a : Row) ×
        (row_at (put_row q rows) n ≡ Some a) × SameFailure o a
    stay n o at_n now counts = elim (same_or_not q.no n) [
      | inl here ↦
          let is : r ≡ o = same_some r o at (subst (λ (k : ℕ). row_at rows k ≡ Some o) (sym here) at_n) in (
            q,
            subst (λ (k : ℕ). row_at (put_row q rows) k ≡ Some q) here (row_here q rows),
            subst (λ (x : Row). SameFailure x q) is (old_ok (subst (FailedNow st) (sym is) now)
                (subst (Counts st) (sym is) counts)),
          )
      | inr ne ↦ (o, row_else q rows n ne ∙ at_n, SameFailure-same o)
    ]

  pub mark_cut : (c : ℕ) (r : Row) → row_at rows c ≡ Some r → (FailedNow st r → Counts st r → ⊥) → RowsMark st rows
      (cut_row c rows)
  mark_cut c r at old_ok = record {
    failing = λ n a at_n now. old n a (row_cut c rows at_n).1 now;
    stay = stay;
  } where
    stay : (n : ℕ) (o : Row) → row_at rows n ≡ Some o → FailedNow st o → Counts st o → (a : Row) ×
        (row_at (cut_row c rows) n ≡ Some a) × SameFailure o a
    stay n o at_n now counts = elim (same_or_not c n) [
      | inl here ↦
          let is : r ≡ o = same_some r o at (subst (λ (k : ℕ). row_at rows k ≡ Some o) (sym here) at_n) in
          absurd (old_ok (subst (FailedNow st) (sym is) now) (subst (Counts st) (sym is) counts))
      | inr ne ↦ (o, row_kept c rows n ne ∙ at_n, SameFailure-same o)
    ]

pub mark_then : (st : Stack) (a b c : List Row) → RowsMark st a b → RowsMark st b c →
    ((r q : Row) → SameFailure r q → Counts st r → Counts st q) → RowsMark st a c
mark_then st a b c first second more = record {
  failing = second.failing;
  stay = λ n r at now counts.
      let (p, at_p, same) = first.stay n r at now counts in
      let (q, at_q, like) = second.stay n p at_p (record {
        stack = same.stack ∙ now.stack;
        status =
            same.status ∙ now.status;
        newest = same.trav ∙ now.newest;
      }) (more r p same counts) in
      (q, at_q, both r p q same like);
} where
  both : (r p q : Row) → SameFailure r p → SameFailure p q → SameFailure r q
  both r p q x y = record {
    no_ = y.no_ ∙ x.no_;
    stack = y.stack ∙ x.stack;
    name = y.name ∙ x.name;
    act = y.act ∙ x.act;
    status = y.status ∙ x.status;
    trav = y.trav ∙ x.trav;
    replaced_by = y.replaced_by ∙ x.replaced_by;
  }

-- a row that hasn't failed is written where none stood
pub mark_new : (st : Stack) (rows : List Row) → ((n : ℕ) (r : Row) → row_at rows n ≡ Some r → FailedNow st r
    → st.status ≡ Failed) → (q : Row)
    → row_at rows q.no ≡ None → (FailedNow st q → ⊥) → RowsMark st rows (put_row q rows)
mark_new st rows old q none fine = record {
  failing = λ n a at now. elim (row_put q rows at) [
    | inl new ↦ absurd (fine (subst (FailedNow st) (sym new.1) now))
    | inr was ↦ old n a was.1 now
  ];
  stay = λ n r at now counts. (r, row_else q rows n (λ here. clash r n at here) ∙ at, SameFailure-same r);
} where
  clash : (r : Row) (n : ℕ) → row_at rows n ≡ Some r → q.no ≡ n → ⊥
  clash r n at here = let e : row_at rows q.no ≡ Some r = subst (λ (k : ℕ). row_at rows k ≡ Some r) (sym here) at in
      cc
