-- The outcomes of taking a letter, and of a job that is released or taken over.
use Rattle.std.proofs.Common.{ap, append-nil, arith, refl, subst, sym, ◌∙◌}
use Rattle.std.specs.Prelude.{Contains, List, None, Option, Some, [], ℕ, ◌++◌, ◌+◌, ◌∷◌, ◌≡◌, ◌≢◌, ◌≤◌}
use Rattle.heat_plan.specs.declared.token.Token.{Token}
use Rattle.row_table.specs.Rows.{put_row, row_at}
use Rattle.row_table.specs.declared.row.Row.{Row}
use Rattle.mail_table.specs.Mails.{cut_job, job_at}
use Rattle.mail_table.specs.declared.mail.Job.{Job}
use Rattle.mail_table.specs.declared.mail.Letter.{Letter}
use Rattle.step_relation.specs.Changes.{applied}
use Rattle.step_relation.specs.State.{StateData}
use Rattle.step_relation.specs.declared.Change.TheVariants.{Drop, EndJob, PutJob}
use Rattle.step_relation.specs.declared.Actor.TheVariants.{Engine}
use Rattle.step_relation.specs.declared.Entry.{Entry}
use Rattle.step_relation.specs.declared.MailWrite.TheVariants.{Dropped, Ended, Held}
use Rattle.step_relation.specs.Rows.{locked, unlocked}
use Rattle.step_relation.specs.Takes.{HasNoHolder, IsHolder, Takes, released_changes, released_entries, taken_job}
use Rattle.step_relation.specs.Writes.{lock, lock_writes, mail_entry, rows_entry}
use Rattle.step_relation.specs.Opening.{Opening}
use Rattle.step_relation.specs.Linked.{Links}
use Rattle.step_relation.specs.Sound.{Sound}
use Rattle.history_laws.proofs.tables.Rows.{row-key, row_else, row_self}
use Rattle.history_laws.proofs.tells.Appends.{released_on, stored_on}
use Rattle.history_laws.proofs.tells.Marks.{unmade}
use Rattle.history_laws.proofs.tells.Silence.{AreUncalling, AreUnmarking}
use Rattle.history_laws.proofs.agrees.Ends.{next_row_kept, released_end, released_state, unlocked_rows}
use Rattle.history_laws.proofs.agrees.Goes.{Goes, was_given, was_polling}
use Rattle.history_laws.proofs.agrees.Going.{RowsGo, rows_look, rows_same}
use Rattle.history_laws.proofs.agrees.Jobs.{goes_with, polls_ended, polls_stolen, polls_taken, put_else}
use Rattle.history_laws.proofs.agrees.Outcome.{Outcome, uncalled}

pub outcome_plain : (o : Opening) (h : List Entry) (s t : StateData) (e : ℕ) (es : List Entry) → AreUnmarking es
    → AreUncalling es → es ≢ []
    → stored_on s.rows es ≡ t.rows → released_on s.released es ≡ t.released → t.stacks ≡ s.stacks → t.pasts ≡ s.pasts
    → Goes o (h ++ es) s t → Outcome o h s t e es
outcome_plain o h s t e es unmarking uncalling some rows tokens stacks pasts go = record {
  first = es;
  marks = [];
  entries = sym (append-nil es);
  silent = unmarking;
  stored_is = rows;
  released_is = tokens;
  made = unmade refl stacks pasts;
  call = uncalled uncalling some;
  goes = go;
}

-- rows and jobs stay
pub goes_still : (o : Opening) (g : List Entry) (s t : StateData) → t.rows ≡ s.rows → t.jobs ≡ s.jobs
    → t.released ≡ s.released
    → s.next.row ≤ t.next.row → Goes o g s t
goes_still o g s t rows jobs tokens up = record {
  rows = subst (λ (x : List Row). RowsGo o g s.next.row s.rows x) (sym rows) (rows_same o g s.next.row s.rows);
  jobs = λ f j at stage. was_polling (subst (λ (x : List Job). job_at x f ≡ Some j) jobs at)
      (λ q found. subst (λ (x : List Row). row_at x j.row ≡ Some q) rows found);
  up = λ x c. subst (λ (ts : List Token). Contains ts x) (sym tokens) c;
  given_up = λ x c. was_given (subst (λ (ts : List Token). Contains ts x) tokens c);
  next = up;
}

-- the row of this number is written with another lock
pub rows_relocked : (o : Opening) (g : List Entry) (s : StateData) (n : ℕ) (r : Row) (holder : Option ℕ) (key : ℕ)
    → row_at s.rows n ≡ Some r
    → RowsGo o g s.next.row s.rows (put_row (record r { engine = holder; key = key }) s.rows)
rows_relocked o g s n r holder key at = rows_look o g s.next.row r (record r { engine = holder; key = key }) s.rows
    (row_self s.rows n r at)
    (record { token = refl; act = refl; status = refl; kind = refl; props = refl; target = refl; facts = refl })
    (λ act. refl)

module _ (o : Opening) (h : List Entry) (s : StateData) (e : ℕ) (x : Sound o h s) where
  links : Links s
  links = x.standing.links

  pub dropped_outcome : (l : Letter) → Outcome o h s (applied (Drop l.no ∷ []) s) e
      (mail_entry (Engine e) (Dropped l.no ∷ []))
  dropped_outcome l = outcome_plain o h s (applied (Drop l.no ∷ []) s) e (mail_entry (Engine e) (Dropped l.no ∷ []))
      (tt, tt) (tt, tt) (λ i. cc)
      refl refl refl refl (goes_still o _ s _ refl refl refl (omega arith))

  pub free_outcome : (k : Takes s e) → HasNoHolder s.jobs k.meant.target → (row : Option Row)
      → row_at s.rows k.meant.target ≡ row
      → Outcome o h s (applied (lock row e (Drop k.letter.no ∷ PutJob (taken_job s e k) ∷ [])) s) e
      (rows_entry (Engine e) (lock_writes row e) ++ mail_entry (Engine e)
      (Dropped k.letter.no ∷ Held (taken_job s e k) ∷ []))
  free_outcome k free None at = outcome_plain o h s _ e _ (tt, tt) (tt, tt) (λ i. cc) refl refl refl refl
      (goes_with o _ s _ k.meant.target links.numbered (rows_same o _ s.next.row s.rows) (λ m ne lt. refl)
      (polls_taken s (taken_job s e k) k.meant.target free (λ i. cc)) refl (omega arith))
  free_outcome k free (Some r) at = outcome_plain o h s _ e _ (tt, (tt, tt)) (tt, (tt, tt))
      (λ i. cc) refl refl refl refl
      (goes_with o _ s _ k.meant.target links.numbered (rows_relocked o _ s k.meant.target r (Some e) (r.key + 1) at)
      (put_else (locked e r) s.rows k.meant.target s.next.row (row-key s.rows k.meant.target r at))
      (polls_taken s (taken_job s e k) k.meant.target free (λ i. cc)) refl (omega arith))

  pub stolen_outcome : (k : Takes s e) (f : ℕ) (j : Job) → IsHolder s.jobs k.meant.target f j → (row : Option Row)
      → row_at s.rows k.meant.target ≡ row
      → Outcome o h s (applied (lock row e (Drop k.letter.no ∷ EndJob f ∷ PutJob (taken_job s e k) ∷ [])) s) e
      (rows_entry (Engine e) (lock_writes row e) ++ mail_entry (Engine e)
      (Dropped k.letter.no ∷ Ended f ∷ Held (taken_job s e k) ∷ []))
  stolen_outcome k f j held None at = outcome_plain o h s _ e _ (tt, tt) (tt, tt) (λ i. cc) refl refl refl refl
      (goes_with o _ s _ k.meant.target links.numbered (rows_same o _ s.next.row s.rows) (λ m ne lt. refl)
      (polls_stolen s links.locked (taken_job s e k) j f k.meant.target held.its held.has (λ i. cc)) refl
      (omega arith))
  stolen_outcome k f j held (Some r) at = outcome_plain o h s _ e _ (tt, (tt, tt)) (tt, (tt, tt))
      (λ i. cc) refl refl refl refl
      (goes_with o _ s _ k.meant.target links.numbered (rows_relocked o _ s k.meant.target r (Some e) (r.key + 1) at)
      (put_else (locked e r) s.rows k.meant.target s.next.row (row-key s.rows k.meant.target r at))
      (polls_stolen s links.locked (taken_job s e k) j f k.meant.target held.its held.has (λ i. cc)) refl
      (omega arith))

  pub released_goes_on : (g : List Entry) (f : ℕ) (j : Job) → job_at s.jobs f ≡ Some j → (row : Option Row)
      → row_at s.rows j.row ≡ row
      → (t : StateData) → t.rows ≡ unlocked_rows row s.rows → t.jobs ≡ cut_job f s.jobs → t.released ≡ s.released
      → s.next.row ≤ t.next.row → Goes o g s t
  released_goes_on g f j its row at t rows jobs tokens up = goes_with o g s t j.row links.numbered
      (subst (λ (y : List Row). RowsGo o g s.next.row s.rows y) (sym rows) (relocked row at))
      (λ m ne lt. ap (λ (y : List Row). row_at y m) rows ∙ else_ row at m ne)
      (λ q k at_k stage. polls_ended s links.locked f j its q k
      (subst (λ (y : List Job). job_at y q ≡ Some k) jobs at_k) stage) tokens up where
        relocked : (w : Option Row) → row_at s.rows j.row ≡ w → RowsGo o g s.next.row s.rows (unlocked_rows w s.rows)
        relocked None a = rows_same o g s.next.row s.rows
        relocked (Some r) a = rows_relocked o g s j.row r None (r.key + 1) a

        else_ : (w : Option Row) → row_at s.rows j.row ≡ w → (m : ℕ) → m ≢ j.row
            → row_at (unlocked_rows w s.rows) m ≡ row_at s.rows m
        else_ None a m ne = refl
        else_ (Some r) a m ne = row_else (unlocked r) s.rows m (λ i. ne (sym i ∙ row-key s.rows j.row r a))

  pub released_outcome : (f : ℕ) (j : Job) → job_at s.jobs f ≡ Some j → (row : Option Row) → row_at s.rows j.row ≡ row
      → (letters : List Letter)
      → Outcome o h s (applied (released_changes s f row letters) s) e (released_entries e f row letters)
  released_outcome f j its row at letters = subst (λ (t : StateData). Outcome o h s t e
      (released_entries e f row letters)) (sym (released_end s f row letters)) (by row at) where
        by : (w : Option Row) → row_at s.rows j.row ≡ w → Outcome o h s (released_state s f w letters) e
            (released_entries e f w letters)
        by None a = outcome_plain o h s (released_state s f None letters) e _ (tt, tt) (tt, tt)
            (λ i. cc) refl refl refl refl
            (released_goes_on _ f j its None a (released_state s f None letters) refl refl refl
            (next_row_kept s.next letters))
        by (Some r) a = outcome_plain o h s (released_state s f (Some r) letters) e _ (tt, (tt, tt)) (tt, (tt, tt))
            (λ i. cc) refl refl refl refl
            (released_goes_on _ f j its (Some r) a (released_state s f (Some r) letters) refl refl refl
            (next_row_kept s.next letters))
