-- The outcome of the end of a job, with the mark where all is done.
use Rattle.std.proofs.Common.{List, inl, inr, refl, subst, sym, ◌∙◌}
use Rattle.std.specs.Prelude.{List, None, Option, Some, [], map, ℕ, ◌++◌, ◌∷◌, ◌≡◌, ◌≢◌, ◌≤◌, ◌⊎◌}
use Rattle.heat_plan.specs.declared.phase.Act.{Act}
use Rattle.heat_plan.specs.declared.phase.Act.TheVariants.{Create, Delete, Init, Rollback, Update}
use Rattle.heat_plan.specs.declared.phase.Status.TheVariants.{Complete, InProgress}
use Rattle.heat_plan.specs.declared.token.Token.{Token}
use Rattle.row_table.specs.Rows.{put_row}
use Rattle.row_table.specs.declared.row.Row.{Row}
use Rattle.mail_table.specs.Mails.{cut_job, job_at}
use Rattle.step_relation.specs.Changes.{applied}
use Rattle.step_relation.specs.State.{StateData, stack_at}
use Rattle.step_relation.specs.declared.Change.{Change}
use Rattle.step_relation.specs.declared.Change.TheVariants.{DropStack, PutStack}
use Rattle.step_relation.specs.declared.Actor.{Actor}
use Rattle.step_relation.specs.declared.Actor.TheVariants.{Engine}
use Rattle.step_relation.specs.declared.Entry.{Entry}
use Rattle.step_relation.specs.declared.MailWrite.TheVariants.{Ended, Sent}
use Rattle.step_relation.specs.declared.Numbers.{Numbers}
use Rattle.step_relation.specs.declared.Stack.{Stack}
use Rattle.step_relation.specs.Finishes.{Finishes, finished_changes, finished_entries, ready_letters}
use Rattle.step_relation.specs.Rows.{unlocked}
use Rattle.step_relation.specs.Writes.{complete_mark, mail_entry, mark_complete, rows_entry, unlock_writes}
use Rattle.step_relation.specs.Opening.{Opening}
use Rattle.step_relation.specs.Sound.{Sound}
use Rattle.history_laws.proofs.tables.Rows.{stack-key}
use Rattle.history_laws.proofs.tells.Appends.{released_on, stored_on}
use Rattle.history_laws.proofs.tells.Marks.{MarkMade, completes, deletes, unmade}
use Rattle.history_laws.proofs.tells.Silence.{AreUncalling, AreUnmarking}
use Rattle.history_laws.proofs.agrees.Ends.{finished_end, finished_state, next_after, next_row_kept, unlocked_rows}
use Rattle.history_laws.proofs.agrees.Goes.{Goes}
use Rattle.history_laws.proofs.agrees.Outcome.{Outcome, uncalled}
use Rattle.history_laws.proofs.agrees.Taken.{released_goes_on}

pub complete_keep : (st : Stack) → st.act ≢ Delete → mark_complete st ≡ PutStack
    (record st { status = Complete }) ∷ []
complete_keep st ne = by st.act ne where
  by : (a : Act) → a ≢ Delete → mark_complete (record st { act = a }) ≡ PutStack
      (record st { act = a; status = Complete }) ∷ []
  by Delete n = absurd (n refl)
  by Init n = refl
  by Create n = refl
  by Update n = refl
  by Rollback n = refl

pub complete_drop : (st : Stack) → st.act ≡ Delete → mark_complete st ≡ DropStack st.name ∷ []
complete_drop st act = subst (λ (a : Act). mark_complete (record st { act = a }) ≡ DropStack st.name ∷ [])
    (sym act) refl

pub delete_or_not : (a : Act) → (a ≡ Delete) ⊎ (a ≢ Delete)
delete_or_not Delete = inl refl
delete_or_not Init = inr (λ i. cc)
delete_or_not Create = inr (λ i. cc)
delete_or_not Update = inr (λ i. cc)
delete_or_not Rollback = inr (λ i. cc)

module _ (o : Opening) (h : List Entry) (s : StateData) (e : ℕ) (x : Sound o h s) (k : Finishes s e) where
  its : job_at s.jobs e ≡ Some k.job
  its = k.works.its

  abbrev first_entries : Option Row → List Entry
  first_entries row = rows_entry (Engine e) (unlock_writes row) ++ mail_entry (Engine e)
      (Ended e ∷ map Sent (ready_letters s e k))

  goes_to : (g : List Entry) (t : StateData) → t.rows ≡ unlocked_rows k.fresh.row s.rows → t.jobs ≡ cut_job e s.jobs
      → t.released ≡ s.released
      → t.next ≡ next_after s.next (ready_letters s e k) → Goes o g s t
  goes_to g t rows jobs tokens next = released_goes_on o h s e x g e k.job its k.fresh.row k.fresh.found t rows jobs
      tokens
      (subst (λ (n : Numbers). s.next.row ≤ n.row) (sym next) (next_row_kept s.next (ready_letters s e k)))

  unmarking_first : (row : Option Row) → AreUnmarking (first_entries row)
  unmarking_first None = (tt, tt)
  unmarking_first (Some r) = (tt, (tt, tt))

  uncalling_first : (row : Option Row) (marks_ : List Entry) → AreUncalling marks_
      → AreUncalling (first_entries row ++ marks_)
  uncalling_first None marks_ none = (tt, none)
  uncalling_first (Some r) marks_ none = (tt, (tt, none))

  some_first : (row : Option Row) (marks_ : List Entry) → first_entries row ++ marks_ ≢ []
  some_first None marks_ i = cc
  some_first (Some r) marks_ i = cc

  stored_first : (row : Option Row) (marks_ : List Entry) → ((rows : List Row) → stored_on rows marks_ ≡ rows)
      → stored_on s.rows (first_entries row ++ marks_) ≡ unlocked_rows row s.rows
  stored_first None marks_ same = same s.rows
  stored_first (Some r) marks_ same = same (put_row (unlocked r) s.rows)

  released_first : (row : Option Row) (marks_ : List Entry) → ((ts : List Token) → released_on ts marks_ ≡ ts)
      → released_on s.released (first_entries row ++ marks_) ≡ s.released
  released_first None marks_ same = same s.released
  released_first (Some r) marks_ same = same s.released

  entries_are : (row : Option Row) (marks_ : List Entry)
      → rows_entry (Engine e) (unlock_writes row) ++ (mail_entry (Engine e)
      (Ended e ∷ map Sent (ready_letters s e k)) ++ marks_) ≡ first_entries row ++ marks_
  entries_are None marks_ = refl
  entries_are (Some r) marks_ = refl

  -- the end state, whatever the marks are
  with_marks : (t : StateData) (marks_ : List Entry) → AreUncalling marks_
      → ((rows : List Row) → stored_on rows marks_ ≡ rows)
      → ((ts : List Token) → released_on ts marks_ ≡ ts) → MarkMade s t marks_
      → t.rows ≡ unlocked_rows k.fresh.row s.rows → t.jobs ≡ cut_job e s.jobs
      → t.released ≡ s.released → t.next ≡ next_after s.next (ready_letters s e k)
      → Outcome o h s t e (finished_entries s e k marks_)
  with_marks t marks_ none rows_same_ tokens_same made rows jobs tokens next =
      subst (λ (es : List Entry). Outcome o h s t e es) (sym (entries_are k.fresh.row marks_)) (record {
        first = first_entries k.fresh.row;
        marks = marks_;
        entries = refl;
        silent = unmarking_first k.fresh.row;
        stored_is = stored_first k.fresh.row marks_ rows_same_ ∙ sym rows;
        released_is = released_first k.fresh.row marks_ tokens_same ∙ sym tokens;
        made = made;
        call = uncalled (uncalling_first k.fresh.row marks_ none) (some_first k.fresh.row marks_);
        goes = goes_to (h ++ (first_entries k.fresh.row ++ marks_)) t rows jobs tokens next;
      })

  pub finished_outcome : Outcome o h s (applied (finished_changes s e k []) s) e (finished_entries s e k [])
  finished_outcome = subst (λ (t : StateData). Outcome o h s t e (finished_entries s e k []))
      (sym (finished_end s e k []))
      (with_marks (finished_state s e k) [] tt (λ rows. refl) (λ ts. refl)
      (unmade refl refl refl) refl refl refl refl)

  stack_self : stack_at s.stacks k.fresh.stack.name ≡ Some k.fresh.stack
  stack_self = subst (λ (n : List ℕ). stack_at s.stacks n ≡ Some k.fresh.stack)
      (sym (stack-key s.stacks k.job.letter.stack k.fresh.stack k.fresh.names.in_table)) k.fresh.names.in_table

  pub last_outcome : k.fresh.stack.status ≡ InProgress
      → Outcome o h s (applied (finished_changes s e k (mark_complete k.fresh.stack)) s) e
      (finished_entries s e k (complete_mark (Engine e) k.fresh.stack ∷ []))
  last_outcome progress = subst (λ (t : StateData). Outcome o h s t e
      (finished_entries s e k (complete_mark (Engine e) k.fresh.stack ∷ [])))
      (sym (finished_end s e k (mark_complete k.fresh.stack))) (by (delete_or_not k.fresh.stack.act)) where
        by : (k.fresh.stack.act ≡ Delete) ⊎ (k.fresh.stack.act ≢ Delete)
            → Outcome o h s (applied (mark_complete k.fresh.stack) (finished_state s e k)) e
            (finished_entries s e k (complete_mark (Engine e) k.fresh.stack ∷ []))
        by (inr ne) = subst (λ (m : List Change). Outcome o h s (applied m (finished_state s e k)) e
            (finished_entries s e k (complete_mark (Engine e) k.fresh.stack ∷ [])))
            (sym (complete_keep k.fresh.stack ne))
            (with_marks (applied (PutStack (record k.fresh.stack { status = Complete }) ∷ []) (finished_state s e k))
            (complete_mark (Engine e) k.fresh.stack ∷ []) (tt, tt)
            (λ rows. refl) (λ ts. refl) (completes (Engine e) k.fresh.stack stack_self progress ne refl refl refl)
            refl refl refl refl)
        by (inl act) = subst (λ (m : List Change). Outcome o h s (applied m (finished_state s e k)) e
            (finished_entries s e k (complete_mark (Engine e) k.fresh.stack ∷ [])))
            (sym (complete_drop k.fresh.stack act))
            (with_marks (applied (DropStack k.fresh.stack.name ∷ []) (finished_state s e k))
            (complete_mark (Engine e) k.fresh.stack ∷ []) (tt, tt)
            (λ rows. refl) (λ ts. refl)
            (deletes (Engine e) k.fresh.stack stack_self progress act
            ((x.standing.marks.each k.fresh.stack.name k.fresh.stack stack_self).deletes.0 act) refl refl refl) refl
            refl refl refl)

-- the marks of a stack that is done
pub made_completed : {s : StateData} (actor : Actor) (st : Stack) → stack_at s.stacks st.name ≡ Some st
    → st.status ≡ InProgress → st.act ≢ Delete
    → MarkMade s (applied (PutStack (record st { status = Complete }) ∷ []) s) (complete_mark actor st ∷ [])
made_completed actor st found progress ne = completes actor st found progress ne refl refl refl

pub made_deleted : {s : StateData} (actor : Actor) (st : Stack) → stack_at s.stacks st.name ≡ Some st
    → st.status ≡ InProgress → st.act ≡ Delete → st.plan ≡ None
    → MarkMade s (applied (DropStack st.name ∷ []) s) (complete_mark actor st ∷ [])
made_deleted actor st found progress act plan = deletes actor st found progress act plan refl refl refl
