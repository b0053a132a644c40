-- Graphs fit after a take, after the release of a job, and after a failure.
use Rattle.std.proofs.Common.{◌≡◌, ℕ, [], ◌∷◌, ◌++◌, List, None, Option, Some, map, refl, sym, ◌∙◌, subst}
use Rattle.row_table.specs.Rows.{put_row, row_at}
use Rattle.row_table.specs.declared.row.Row.{Row}
use Rattle.mail_table.specs.declared.mail.Job.{Job}
use Rattle.mail_table.specs.declared.mail.Letter.{Letter}
use Rattle.heat_plan.specs.declared.phase.Status.TheVariants.{Failed}
use Rattle.core_state.specs.Changes.{applied, apply}
use Rattle.core_state.specs.State.{StateData}
use Rattle.core_state.specs.declared.change.Change.TheVariants.{Drop, EndJob, PutJob, PutRow, Send}
use Rattle.core_state.specs.declared.stack.Stack.{Stack}
use Rattle.step_relation.specs.Asks.{Falls, failed_changes, marked, marks, overrun}
use Rattle.step_relation.specs.Begins.{left_changes}
use Rattle.step_relation.specs.Rows.{failed_row, locked, unlocked}
use Rattle.step_relation.specs.Takes.{released_changes}
use Rattle.step_relation.specs.Writes.{lock, mark_failed}
use Rattle.step_relation.specs.Sound.{Standing}
use Rattle.graph_laws.specs.graphs.Laws.{GraphsFit}
use Rattle.graph_laws.proofs.graphs.Carriers.{carries_same}
use Rattle.graph_laws.proofs.graphs.Kept.{CarriesAll, SameStacks, drawn, draws, kept_by, sends, sends_all, sent, stacks_marked}
use Rattle.graph_laws.proofs.graphs.Kept.{stacks_same}
use Rattle.graph_laws.proofs.graphs.Shapes.{SameShape, carries_shape}

same_locked : (e : ℕ) (r : Row) → SameShape r (locked e r)
same_locked e r = record { no_ = refl; stack = refl; name = refl; act = refl; trav = refl; replaced_by = refl }

same_unlocked : (r : Row) → SameShape r (unlocked r)
same_unlocked r = record { no_ = refl; stack = refl; name = refl; act = refl; trav = refl; replaced_by = refl }

same_failed : (r : Row) → SameShape r (failed_row r)
same_failed r = record { no_ = refl; stack = refl; name = refl; act = refl; trav = refl; replaced_by = refl }

module _ (s : StateData) (h : Standing s) where
  -- no row, no graph and no stack is written
  pub quiet : (t : StateData) → t.stacks ≡ s.stacks → t.graphs ≡ s.graphs → t.rows ≡ s.rows → GraphsFit t
  quiet t stacks graphs rows =
      kept_by s t h (subst (λ (x : List Stack). SameStacks s.stacks x) (sym stacks) (stacks_same s.stacks)) graphs
      (λ name st at. carries_same s t h name st at rows)

  -- a row is locked with a job's begin, if it stands
  pub locks : (e n : ℕ) (r : Option Row) (l : ℕ) (j : Job) → row_at s.rows n ≡ r
      → GraphsFit (applied (lock r e (Drop l ∷ PutJob j ∷ [])) s)
  locks e n None l j none = quiet (applied (Drop l ∷ PutJob j ∷ []) s) refl refl refl
  locks e n (Some r) l j at = kept_by s (applied (PutRow (locked e r) ∷ Drop l ∷ PutJob j ∷ []) s) h
      (stacks_same s.stacks) refl
      (carries_shape s _ h n r (locked e r) at refl (same_locked e r) (λ name st i m word at_st node f done. refl))

  pub steals : (e n f : ℕ) (r : Option Row) (l : ℕ) (j : Job) → row_at s.rows n ≡ r
      → GraphsFit (applied (lock r e (Drop l ∷ EndJob f ∷ PutJob j ∷ [])) s)
  steals e n f None l j none = quiet (applied (Drop l ∷ EndJob f ∷ PutJob j ∷ []) s) refl refl refl
  steals e n f (Some r) l j at = kept_by s (applied (PutRow (locked e r) ∷ Drop l ∷ EndJob f ∷ PutJob j ∷ []) s) h
      (stacks_same s.stacks) refl
      (carries_shape s _ h n r (locked e r) at refl (same_locked e r) (λ name st i m word at_st node f done. refl))

  -- a job is released
  pub releases : (f n : ℕ) (r : Option Row) (ls : List Letter) → row_at s.rows n ≡ r
      → GraphsFit (applied (released_changes s f r ls) s)
  releases f n None ls none = subst GraphsFit (sym (draws s.next ls (EndJob f ∷ map Send ls) s
      ∙ sends_all ls (apply (EndJob f) (record s { next = drawn s.next ls s.next }))))
      (quiet _ refl refl refl)
  releases f n (Some r) ls at =
      subst GraphsFit (sym (draws s.next ls (PutRow (unlocked r) ∷ EndJob f ∷ map Send ls) s
      ∙ sends_all ls (apply (EndJob f) (apply (PutRow (unlocked r)) (record s { next = drawn s.next ls s.next })))))
      (kept_by s _ h (stacks_same s.stacks) refl
      (carries_shape s _ h n r (unlocked r) at refl (same_unlocked r) (λ name st i m word at_st node f done. refl)))

  -- a row is left, and the stack may be marked
  pub leaves : (e n : ℕ) (r : Row) → row_at s.rows n ≡ Some r → GraphsFit (applied (left_changes e r) s)
  leaves e n r at = kept_by s (applied (left_changes e r) s) h (stacks_same s.stacks) refl
      (carries_shape s _ h n r (unlocked r) at refl (same_unlocked r) (λ name st i m word at_st node f done. refl))

  pub faults : (e n : ℕ) (r : Row) (j : Job) (ls : List Letter) (failed : Option Stack) → row_at s.rows n ≡ Some r
      → Falls s j ls failed
      → GraphsFit (applied (left_changes e r ++ mark_failed failed) s)
  faults e n r j ls failed at (overrun _ _ _) = leaves e n r at
  faults e n r j ls failed at (marked _ _) = leaves e n r at
  faults e n r j ls failed at (marks k _) =
      kept_by s (applied (left_changes e r ++ mark_failed (Some k.stack)) s) h
      (stacks_marked s.stacks j.letter.stack k.stack Failed k.names.in_table) refl
      (carries_shape s _ h n r (unlocked r) at refl (same_unlocked r) (λ name st i m word at_st node f done. refl))

  -- a row fails, and the stack may be marked
  pub falls : (e n : ℕ) (r : Row) (j : Job) (ls : List Letter) (failed : Option Stack) → row_at s.rows n ≡ Some r
      → Falls s j ls failed
      → GraphsFit (applied (failed_changes s e r ls failed) s)
  falls e n r j ls failed at f =
      subst GraphsFit (sym (draws s.next ls (PutRow (failed_row r) ∷ EndJob e ∷ (map Send ls ++ mark_failed failed)) s
      ∙ sends ls (mark_failed failed) (between ls))) (by ls failed f) where
        between : List Letter → StateData
        between ls = apply (EndJob e) (apply (PutRow (failed_row r)) (record s { next = drawn s.next ls s.next }))

        rows : (t : StateData) → t.rows ≡ put_row (failed_row r) s.rows → CarriesAll s t
        rows t same = carries_shape s t h n r (failed_row r) at same (same_failed r)
            (λ name st i m word at_st node f done. refl)

        by : (ls : List Letter) (failed : Option Stack) → Falls s j ls failed
            → GraphsFit (applied (mark_failed failed) (record (between ls) { letters = sent ls (between ls).letters }))
        by ls failed (overrun _ _ _) = kept_by s _ h (stacks_same s.stacks) refl (rows _ refl)
        by ls failed (marked _ _) = kept_by s _ h (stacks_same s.stacks) refl (rows _ refl)
        by ls failed (marks k _) =
            kept_by s _ h (stacks_marked s.stacks j.letter.stack k.stack Failed k.names.in_table) refl (rows _ refl)
