-- The mark of the stack that a move is on fits after it, and so all marks do: `marks_by_own`.
use Rattle.std.proofs.Common.{◌≡◌, inl, inr, ℕ, List, [], ◌∷◌, map, Option, Some, None, refl, sym, ap, ◌∙◌, subst}
use Rattle.heat_plan.specs.declared.phase.Status.TheVariants.{Failed}
use Rattle.traversal_graph.specs.declared.shape.Node.{Node}
use Rattle.row_table.specs.Rows.{put_row, row_at}
use Rattle.row_table.specs.declared.row.Row.{Row}
use Rattle.mail_table.specs.declared.mail.Letter.{Letter}
use Rattle.core_state.specs.Changes.{applied, apply}
use Rattle.core_state.specs.State.{StateData, graph_at, stack_at}
use Rattle.core_state.specs.declared.change.Change.TheVariants.{Send}
use Rattle.core_state.specs.declared.graph.Graph.{Graph}
use Rattle.core_state.specs.declared.stack.Stack.{Stack}
use Rattle.step_relation.specs.Resends.{IsOpen}
use Rattle.step_relation.specs.Rows.{unlocked}
use Rattle.step_relation.specs.Takes.{released_changes}
use Rattle.step_relation.specs.Writes.{unlock}
use Rattle.step_relation.specs.Elsewhere.{Elsewhere}
use Rattle.step_relation.specs.GraphFits.{GraphFits, IsNode, graph_of, graph_or}
use Rattle.step_relation.specs.Linked.{Links}
use Rattle.step_relation.specs.MarkFits.{IsFailed, MarkFits, MarksFit}
use Rattle.step_relation.specs.Sound.{Standing}
use Rattle.history_laws.proofs.frames.Others.{other_mark}
use Rattle.graph_laws.specs.graphs.Laws.{GraphsFit}
use Rattle.graph_laws.proofs.marks.Rows.{Counts, FailedNow, RowsMark, SameFailure, mark_put, mark_same, marks_stay}
use Rattle.history_laws.proofs.tables.Rows.{row_self, text_or_not}

-- the same stacks, graphs and rows
pub record SameThree (s t : StateData) : Type 0 where
  pub stacks : t.stacks ≡ s.stacks
  pub graphs : t.graphs ≡ s.graphs
  pub rows : t.rows ≡ s.rows

pub sends_three : (ls : List Letter) (t : StateData) → SameThree t (applied (map Send ls) t)
sends_three [] t = record { stacks = refl; graphs = refl; rows = refl }
sends_three (l ∷ ls) t =
    let k = sends_three ls (apply (Send l) t) in record { stacks = k.stacks; graphs = k.graphs; rows = k.rows }

pub released_three : (s : StateData) (f : ℕ) (r : Option Row) (ls : List Letter) → SameThree
    (applied (unlock r []) s) (applied (released_changes s f r ls) s)
released_three s f None [] = record { stacks = refl; graphs = refl; rows = refl }
released_three s f (Some r) [] = record { stacks = refl; graphs = refl; rows = refl }
released_three s f None (l ∷ ls) = let k = sends_three (l ∷ ls) _ in record
    { stacks = k.stacks; graphs = k.graphs; rows = k.rows }
released_three s f (Some r) (l ∷ ls) = let k = sends_three (l ∷ ls) _ in record
    { stacks = k.stacks; graphs = k.graphs; rows = k.rows }

-- stacks and graphs stay, and of this stack's rows none fails and each that failed stays so
pub record IsQuiet (s t : StateData) (own : List ℕ) : Type 0 where
  pub stacks : stack_at t.stacks own ≡ stack_at s.stacks own
  pub graphs : graph_at t.graphs own ≡ graph_at s.graphs own
  pub rows : (st : Stack) → stack_at s.stacks own ≡ Some st → RowsMark st s.rows t.rows

pub quiet_three : (s t u : StateData) (own : List ℕ) → SameThree t u → IsQuiet s t own → IsQuiet s u own
quiet_three s t u own three q = record {
  stacks = ap (λ (x : List Stack). stack_at x own) three.stacks ∙ q.stacks;
  graphs = ap (λ (x : List Graph). graph_at x own) three.graphs ∙ q.graphs;
  rows = λ st at. subst (RowsMark st s.rows) (sym three.rows) (q.rows st at);
}

module _ (s : StateData) (S : Standing s) (own : List ℕ) (st : Stack) (at_st : stack_at s.stacks own ≡ Some st) where
  pub old_failing : (n : ℕ) (r : Row) → row_at s.rows n ≡ Some r → FailedNow st r → st.status ≡ Failed
  old_failing n r at now = (S.marks.each own st at_st).failing n r at now.stack now.status now.newest

  pub row_same : RowsMark st s.rows s.rows
  row_same = mark_same st s.rows old_failing

  -- a row that failed stays so in this form
  pub row_kept : (n : ℕ) (r q : Row) → row_at s.rows n ≡ Some r → SameFailure r q → RowsMark st s.rows
      (put_row q s.rows)
  row_kept n r q at same =
      mark_put st s.rows old_failing r q (subst (λ (k : ℕ). row_at s.rows k ≡ Some r) (sym same.no_)
      (row_self s.rows n r at))
      (λ now. old_failing n r at (record {
        stack = sym same.stack ∙ now.stack;
        status =
            sym same.status ∙ now.status;
        newest = sym same.trav ∙ now.newest;
      }))
      (λ _ _. same)

  -- a row that hasn't failed for this mark is written in another form that hasn't
  pub row_fine : (n : ℕ) (r q : Row) → row_at s.rows n ≡ Some r → q.no ≡ r.no →
      (FailedNow st q → st.status ≡ Failed) → (FailedNow st r → Counts st r → ⊥)
      → RowsMark st s.rows (put_row q s.rows)
  row_fine n r q at same new_ok old_ok =
      mark_put st s.rows old_failing r q (subst (λ (k : ℕ). row_at s.rows k ≡ Some r) (sym same)
      (row_self s.rows n r at)) new_ok
      (λ now counts. absurd (old_ok now counts))

  pub row_unlocked : (n : ℕ) (r : Option Row) → row_at s.rows n ≡ r → RowsMark st s.rows
      (applied (unlock r []) s).rows
  row_unlocked n None at = row_same
  row_unlocked n (Some r) at =
      row_kept n r (unlocked r) at (record {
        no_ = refl;
        stack = refl;
        name = refl;
        act = refl;
        status =
            refl;
        trav = refl;
        replaced_by = refl;
      })

pub quiet_unlocked : (s : StateData) → Standing s → (own : List ℕ) (n : ℕ) (r : Option Row) → row_at s.rows n ≡ r
    → IsQuiet s (applied (unlock r []) s) own
quiet_unlocked s S own n None at = record {
  stacks = refl;
  graphs = refl;
  rows =
      λ st at_st. row_unlocked s S own st at_st n None at;
}
quiet_unlocked s S own n (Some r) at = record {
  stacks = refl;
  graphs = refl;
  rows =
      λ st at_st. row_unlocked s S own st at_st n (Some r) at;
}

pub quiet_released : (s : StateData) → Standing s → (own : List ℕ) (f n : ℕ) (r : Option Row) (ls : List Letter)
    → row_at s.rows n ≡ r
    → IsQuiet s (applied (released_changes s f r ls) s) own
quiet_released s S own f n r ls at = quiet_three s (applied (unlock r []) s) _ own (released_three s f r ls)
    (quiet_unlocked s S own n r at)

module _ (s : StateData) (S : Standing s) (t : StateData) (G : GraphsFit t) (L : Links t) (own : List ℕ) where
  abbrev OwnMarks : Type 0
  OwnMarks = (st : Stack) → stack_at t.stacks own ≡ Some st → MarkFits t st (graph_of t own)

  pub own_quiet : IsQuiet s t own → (st : Stack) → stack_at t.stacks own ≡ Some st → MarkFits t st (graph_of t own)
  own_quiet q st at =
      let was : stack_at s.stacks own ≡ Some st = sym q.stacks ∙ at in
      let same : graph_of s own ≡ graph_of t own = sym (ap (graph_or own) q.graphs) in
      subst (MarkFits t st) same
      (marks_stay s t st (graph_of s own) (S.shape.graphs own st was)
      (subst (GraphFits t st) (sym same) (G own st at)) L.current (q.rows st was)
      (S.marks.each own st was))

-- the other stacks' marks fit as before
pub marks_by_own : (s : StateData) → Standing s → (t : StateData) (own : List ℕ) → Elsewhere own s t
    → ((st : Stack) → stack_at t.stacks own ≡ Some st → MarkFits t st (graph_of t own)) → MarksFit t
marks_by_own s S t own E mine = record { each = go } where
  go : (name : List ℕ) (st : Stack) → stack_at t.stacks name ≡ Some st → MarkFits t st (graph_of t name)
  go name st at = elim (text_or_not name own) [
    | inl is ↦ subst (λ (x : List ℕ). MarkFits t st (graph_of t x)) (sym is)
        (mine st (subst (λ (x : List ℕ). stack_at t.stacks x ≡ Some st) is at))
    | inr ne ↦ other_mark own s t E S.links name ne st at (S.marks.each name st (sym (E.stacks name ne) ∙ at))
  ]

-- a stack that is marked as failed, with a node on which it did
pub marked_failed : (s : StateData) → Standing s → (t : StateData) (own : List ℕ) (st : Stack) (g : Graph)
    → MarkFits s st g → (i : ℕ) (node : Node)
    → IsNode g i node → IsOpen g i → IsFailed t (record st { status = Failed }) g i → MarkFits t
    (record st { status = Failed }) g
marked_failed s S t own st g old i node at opened failed = record {
  complete = (λ is. cc, λ all. absurd (opened.undone (all i node at)));
  failing = λ n r at_n is status newest. refl;
  failed = λ _. record { i = i; open_ = opened; failed = failed };
  act = old.act;
  deletes = old.deletes;
  proper = old.proper;
}
