-- After each move but a finish the mark of its stack fits.
use Rattle.std.proofs.Common.{◌≡◌, ◌≢◌, ℕ, List, [], ◌∷◌, Option, Some, None, refl, sym, ap, ◌∙◌, subst, arith}
use Rattle.std.specs.Prelude.{Contains}
use Rattle.heat_plan.specs.Plans.{names_of}
use Rattle.heat_value.specs.Data.{Members}
use Rattle.heat_plan.specs.declared.phase.Status.{Status}
use Rattle.heat_plan.specs.declared.phase.Status.TheVariants.{Complete, Failed, InProgress}
use Rattle.row_table.specs.Rows.{put_row, row_at}
use Rattle.row_table.specs.declared.row.Row.{Row}
use Rattle.mail_table.specs.declared.mail.Job.{Job}
use Rattle.mail_table.specs.declared.mail.Stage.{Stage}
use Rattle.core_state.specs.Changes.{applied}
use Rattle.core_state.specs.State.{StateData, graph_at, stack_at}
use Rattle.core_state.specs.declared.change.Change.TheVariants.{Drop, DropRow, EndJob, PutJob, PutRow}
use Rattle.core_state.specs.declared.graph.Graph.{Graph}
use Rattle.core_state.specs.declared.stack.Stack.{Stack}
use Rattle.step_relation.specs.Begins.{Begins, left_changes, next_row, replaced_changes}
use Rattle.step_relation.specs.Cleanups.{Cleans, IsKept, IsStuck}
use Rattle.step_relation.specs.Freshness.{plan_of}
use Rattle.step_relation.specs.Rows.{locked, replaced, unlocked}
use Rattle.step_relation.specs.Writes.{lock, with_stage}
use Rattle.step_relation.specs.Sound.{Standing}
use Rattle.graph_laws.proofs.marks.Own.{IsQuiet, SameThree, old_failing, row_fine, row_kept, row_same}
use Rattle.graph_laws.proofs.marks.Rows.{Counts, FailedNow, RowsMark, SameFailure, leaves, mark_cut, mark_new, mark_put}
use Rattle.graph_laws.proofs.marks.Rows.{mark_then, wanted}
use Rattle.history_laws.proofs.tables.Rows.{row-key, row_else, row_self, same_some}

pub complete_clash : {x : Status} → x ≡ Complete → x ≡ Failed → ⊥
complete_clash is other = let e : Complete ≡ Failed = sym is ∙ other in cc

pub progress_clash : {x : Status} → x ≡ InProgress → x ≡ Failed → ⊥
progress_clash is other = let e : InProgress ≡ Failed = sym is ∙ other in cc

-- a take
pub quiet_locked : (s : StateData) → Standing s → (own : List ℕ) (e n : ℕ) (r : Option Row) (l : ℕ) (j : Job)
    → row_at s.rows n ≡ r
    → IsQuiet s (applied (lock r e (Drop l ∷ PutJob j ∷ [])) s) own
quiet_locked s S own e n None l j at = record {
  stacks = refl;
  graphs = refl;
  rows =
      λ st at_st. row_same s S own st at_st;
}
quiet_locked s S own e n (Some r) l j at = record {
  stacks = refl;
  graphs = refl;
  rows = λ st at_st.
      row_kept s S own st at_st n r (locked e r) at (record {
        no_ = refl;
        stack = refl;
        name = refl;
        act =
            refl;
        status = refl;
        trav = refl;
        replaced_by = refl;
      });
}

pub quiet_stolen : (s : StateData) → Standing s → (own : List ℕ) (e n f : ℕ) (r : Option Row) (l : ℕ) (j : Job)
    → row_at s.rows n ≡ r
    → IsQuiet s (applied (lock r e (Drop l ∷ EndJob f ∷ PutJob j ∷ [])) s) own
quiet_stolen s S own e n f None l j at = record {
  stacks = refl;
  graphs = refl;
  rows =
      λ st at_st. row_same s S own st at_st;
}
quiet_stolen s S own e n f (Some r) l j at = record {
  stacks = refl;
  graphs = refl;
  rows = λ st at_st.
      row_kept s S own st at_st n r (locked e r) at (record {
        no_ = refl;
        stack = refl;
        name = refl;
        act =
            refl;
        status = refl;
        trav = refl;
        replaced_by = refl;
      });
}

module _ (s : StateData) (S : Standing s) (own : List ℕ) (j : Job) where
  -- nothing but letters and jobs
  pub quiet_mail : (t : StateData) → SameThree s t → IsQuiet s t own
  quiet_mail t three = record {
    stacks = ap (λ (x : List Stack). stack_at x own) three.stacks;
    graphs = ap (λ (x : List Graph). graph_at x own) three.graphs;
    rows = λ st at_st. subst (RowsMark st s.rows) (sym three.rows) (row_same s S own st at_st);
  }

  -- a row that hasn't failed is written so again
  pub quiet_begun : (stage : Stage) (r q : Row) → row_at s.rows j.row ≡ Some r → q.no ≡ r.no
      → ((st : Stack) → stack_at s.stacks own ≡ Some st → FailedNow st q → st.status ≡ Failed)
      → ((st : Stack) → stack_at s.stacks own ≡ Some st → FailedNow st r → Counts st r → ⊥)
      → IsQuiet s (applied (PutRow q ∷ PutJob (with_stage stage j) ∷ []) s) own
  quiet_begun stage r q at same new_ok old_ok = record {
    stacks = refl;
    graphs = refl;
    rows = λ st at_st. row_fine s S own st at_st j.row r q at same (new_ok st at_st) (old_ok st at_st);
  }

  pub quiet_left : (e : ℕ) (r : Row) → row_at s.rows j.row ≡ Some r → IsQuiet s (applied (left_changes e r) s) own
  quiet_left e r at = record {
    stacks = refl;
    graphs = refl;
    rows = λ st at_st.
        row_kept s S own st at_st j.row r (unlocked r) at
        (record {
          no_ = refl;
          stack = refl;
          name = refl;
          act = refl;
          status = refl;
          trav = refl;
          replaced_by =
              refl;
        });
  }

  pub quiet_purged : (stage : Stage) (r : Row) → row_at s.rows j.row ≡ Some r
      → ((st : Stack) → stack_at s.stacks own ≡ Some st → FailedNow st r → Counts st r → ⊥)
      → IsQuiet s (applied (DropRow r.no ∷ PutJob (with_stage stage j) ∷ []) s) own
  quiet_purged stage r at old_ok = record {
    stacks = refl;
    graphs = refl;
    rows = λ st at_st.
        mark_cut st s.rows (old_failing s S own st at_st) r.no r (row_self s.rows j.row r at) (old_ok st at_st);
  }

-- a row that is neither kept nor stuck doesn't count
pub uncounted : (s : StateData) → Standing s → (e : ℕ) (k : Cleans s e) (r : Row) → row_at s.rows k.job.row ≡ Some r
    → (IsKept s k.stack r → ⊥)
    → (IsStuck r k.stack.trav → ⊥) → (st : Stack) → stack_at s.stacks k.job.letter.stack ≡ Some st → FailedNow st r
    → Counts st r → ⊥
uncounted s S e k r at unkept unstuck st at_st now counts = by (subst (λ (x : Stack). FailedNow x r) (sym is) now)
    (subst (λ (x : Stack). Counts x r) (sym is) counts) where
      is : k.stack ≡ st
      is = same_some k.stack st k.names.in_table at_st

      by : FailedNow k.stack r → Counts k.stack r → ⊥
      by failed (wanted current planned) = unkept (record {
        current = record {
          found = row_self s.rows k.job.row r at;
          stack_is = refl;
          name_is = refl;
          current = current;
          greatest = λ m q at_q of called cur. S.links.current.newest r.no m r q (row_self s.rows k.job.row r at) at_q
              (sym of) (sym called) current;
        };
        planned = planned;
      })
      by failed (leaves act) = unstuck (record { act = act; status = failed.status; newest = failed.newest })

-- a replacement
pub quiet_replaced : (s : StateData) → Standing s → (e : ℕ) (k : Begins s e) (props : Members)
    → k.row.trav ≢ k.stack.trav
    → IsQuiet s (applied (replaced_changes s e k props) s) k.job.letter.stack
quiet_replaced s S e k props other = record { stacks = refl; graphs = refl; rows = rows } where
  no_row : row_at s.rows s.next.row ≡ None
  no_row = by (row_at s.rows s.next.row) refl where
    by : (o : Option Row) → row_at s.rows s.next.row ≡ o → row_at s.rows s.next.row ≡ None
    by None at = at
    by (Some q) at = let n = row-key s.rows s.next.row q at in let b =
        (S.links.numbered.rows s.next.row q at).no_ in absurd (omega arith)

  rows : (st : Stack) → stack_at s.stacks k.job.letter.stack ≡ Some st
      → RowsMark st s.rows (put_row (replaced s.next.row k.row) (put_row (next_row s e k props) s.rows))
  rows st at_st =
      let is : k.stack ≡ st = same_some k.stack st k.names.in_table at_st in
      let old : k.row.trav ≢ st.trav = λ eq. other (eq ∙ ap (λ (x : Stack). x.trav) (sym is)) in
      let new : RowsMark st s.rows (put_row (next_row s e k props) s.rows) =
      mark_new st s.rows (old_failing s S k.job.letter.stack st at_st) (next_row s e k props) no_row
      (λ now. progress_clash refl now.status) in
      mark_then st s.rows _ _ new
      (mark_put st (put_row (next_row s e k props) s.rows) new.failing k.row (replaced s.next.row k.row)
      (row_else (next_row s e k props) s.rows k.row.no (λ eq. let n : s.next.row ≡ k.row.no = eq in let l =
      (S.links.numbered.rows k.job.row k.row k.found).no_ in omega arith)
      ∙ row_self s.rows k.job.row k.row k.found)
      (λ now. absurd (old now.newest)) (λ now _. absurd (old now.newest)))
      (λ r q same counts. again r q same counts) where
        again : (r q : Row) → SameFailure r q → Counts st r → Counts st q
        again r q same (wanted current planned) =
            wanted (record { kept = λ e. current.kept (sym same.act ∙ e); last = same.replaced_by ∙ current.last })
            (subst (Contains (names_of (plan_of st.plan).items)) (sym same.name) planned)
        again r q same (leaves act) = leaves (same.act ∙ act)
