-- Begins: rows that are written, replaced, left or given up, with the engine's job.
use Rattle.std.proofs.Common.{◌≡◌, ◌≢◌, ◌⊎◌, inl, inr, ◌<◌, ℕ, List, [], ◌∷◌, ◌++◌, Option, Some, None, refl, sym, ap}
use Rattle.std.proofs.Common.{subst, ◌∙◌, arith}
use Rattle.std.specs.Prelude.{Contains, IsSome}
use Rattle.std.proofs.lemmas.List.Elements.{Contains-append_cases}
use Rattle.heat_value.specs.Data.{Members}
use Rattle.heat_plan.specs.declared.phase.Status.TheVariants.{InProgress}
use Rattle.heat_plan.specs.declared.token.Token.{Token}
use Rattle.row_table.specs.Rows.{cut_row, put_row, row_at}
use Rattle.row_table.specs.declared.row.Row.{Row}
use Rattle.mail_table.specs.Mails.{job_at, put_job}
use Rattle.mail_table.specs.declared.mail.Job.{Job}
use Rattle.mail_table.specs.declared.mail.Stage.{Stage}
use Rattle.mail_table.specs.declared.mail.Stage.TheVariants.{Asking, Ending}
use Rattle.core_state.specs.Changes.{applied}
use Rattle.core_state.specs.State.{StateData, stack_at}
use Rattle.core_state.specs.declared.entry.Entry.{Entry}
use Rattle.core_state.specs.declared.stack.Stack.{Stack}
use Rattle.step_relation.specs.Begins.{Begins, begun_changes, left_changes, moved_job, next_row, onward_changes}
use Rattle.step_relation.specs.Begins.{replaced_changes}
use Rattle.step_relation.specs.Cleanups.{purged_changes, retained_changes}
use Rattle.step_relation.specs.Rows.{replaced, token_of}
use Rattle.step_relation.specs.Writes.{mark_failed, with_stage}
use Rattle.step_relation.specs.Opening.{Opening}
use Rattle.history_laws.proofs.tables.Rows.{job-key, row-key, row_else, row_gone, row_here}
use Rattle.history_laws.proofs.tells.Silence.{AreUncalling, could-silent}
use Rattle.history_laws.proofs.agrees.Called.{only}
use Rattle.step_relation.specs.Numbered.{EachOnce}
use Rattle.workable_laws.specs.Workable.{IsCalledAct, MustLive, RowStands, Workable, creates}
use Rattle.workable_laws.proofs.Ends.{ended_kept, rows_unlocked, untouched}
use Rattle.workable_laws.proofs.Kept.{JobsKept, Kept, OwnJob, RowsKept}
use Rattle.workable_laws.proofs.Own.{asking_job, dead_begun, done, like_live, lived, own_is, still_job}
use Rattle.workable_laws.proofs.Tables.{jobs_restaged, rows_cut_here, rows_put_here, rows_replaced}

module _ (o : Opening) (h : List Entry) (s : StateData) (w : Workable o h s) (e : ℕ) (j : Job)
    (its : job_at s.jobs e ≡ Some j) where
  -- the job at another stage
  restaged : Stage → Job
  restaged stage = with_stage stage j

  holder : j.engine ≡ e
  holder = job-key s.jobs e j its

  job_fits : (j.row < s.next.row) × (j.engine < s.next.engine)
  job_fits = (w.drawn.jobs e j its, (let lt = w.drawn.holders e j its in omega (arith, lt, holder)))

  pub restaged_kept : (es : List Entry) → AreUncalling es → (stage : Stage) → (t : StateData) → t.live ≡ s.live
      → t.jobs ≡ put_job (with_stage stage j) s.jobs
      → ((x : Token) → Contains t.released x → Contains s.released x ⊎ (row_at t.rows x.row ≡ None))
      → RowsKept o (h ++ es) s t.rows j.row
      → OwnJob o (h ++ es) s t j.row (with_stage stage j) → Kept o h (h ++ es) s t e j.row
  restaged_kept es silent stage t lives jobs tokens rows own = record {
    live = λ f c. inl (subst (λ (l : List ℕ). Contains l f) lives c);
    rows = rows;
    jobs = subst (λ (l : List Job). JobsKept s l e j.row) (sym jobs)
        (jobs_restaged s w.jobs e j (with_stage stage j) its holder);
    own = λ q at. subst (OwnJob o (h ++ es) s t j.row)
        (own_is s.jobs (with_stage stage j) q e holder (subst (λ (l : List Job). job_at l e ≡ Some q) jobs at)) own;
    could = λ x ne. could-silent o h es x silent;
    released = tokens;
    once = subst EachOnce (sym lives) w.once;
  }

  -- the row is written, and is asked for next
  pub asked_workable : (es : List Entry) → AreUncalling es → (r q : Row) → row_at s.rows j.row ≡ Some r
      → token_of q ≡ token_of r → q.status ≡ InProgress
      → IsCalledAct q.act → RowStands q → (MustLive q → MustLive r)
      → Workable o (h ++ es) (applied (begun_changes j Asking q) s)
  asked_workable es silent r q at token under act stands back =
      let number : q.no ≡ j.row = ap (λ (y : Token). y.row) token ∙ row-key s.rows j.row r at in
      let lt = w.drawn.jobs e j its in
      done o h s w (begun_changes j Asking q) es e j.row (omega (arith, number, lt), (job_fits, tt))
      (restaged_kept es silent Asking (applied (begun_changes j Asking q) s) refl refl (λ x c. inl c)
      (rows_put_here o h (h ++ es) s w.drawn w.jobs w.cloud j.row r q at token stands
      (lived o h s w es silent j.row r q at token back))
      (asking_job o (h ++ es) s _ j.row (with_stage Asking j) (inl refl) refl (record {
        row = q;
        found = subst (λ (n : ℕ). row_at (put_row q s.rows) n ≡ Some q) number (row_here q s.rows);
        status = under;
        act = act;
      })))

  -- the row is written, and its job ends next
  pub same_workable : (es : List Entry) → AreUncalling es → (r q : Row) → row_at s.rows j.row ≡ Some r
      → token_of q ≡ token_of r
      → RowStands q → (MustLive q → MustLive r) → Workable o (h ++ es) (applied (begun_changes j Ending q) s)
  same_workable es silent r q at token stands back =
      let number : q.no ≡ j.row = ap (λ (y : Token). y.row) token ∙ row-key s.rows j.row r at in
      let lt = w.drawn.jobs e j its in
      done o h s w (begun_changes j Ending q) es e j.row (omega (arith, number, lt), (job_fits, tt))
      (restaged_kept es silent Ending (applied (begun_changes j Ending q) s) refl refl (λ x c. inl c)
      (rows_put_here o h (h ++ es) s w.drawn w.jobs w.cloud j.row r q at token stands
      (lived o h s w es silent j.row r q at token back))
      (still_job o (h ++ es) s _ j.row (with_stage Ending j) refl (inr refl)))

  -- the job goes on, to be asked or to end
  pub resumed_workable : (es : List Entry) → AreUncalling es → (r : Row) → row_at s.rows j.row ≡ Some r
      → r.status ≡ InProgress → IsCalledAct r.act
      → Workable o (h ++ es) (applied (onward_changes j Asking) s)
  resumed_workable es silent r at under act = done o h s w (onward_changes j Asking) es e j.row (job_fits, tt)
      (restaged_kept es silent Asking (applied (onward_changes j Asking) s) refl refl (λ x c. inl c)
      (untouched o h s w es silent j.row)
      (asking_job o (h ++ es) s _ j.row (with_stage Asking j) (inl refl) refl
      (record { row = r; found = at; status = under; act = act })))

  pub passed_workable : (es : List Entry) → AreUncalling es → Workable o (h ++ es) (applied (onward_changes j Ending) s)
  passed_workable es silent = done o h s w (onward_changes j Ending) es e j.row (job_fits, tt)
      (restaged_kept es silent Ending (applied (onward_changes j Ending) s) refl refl (λ x c. inl c)
      (untouched o h s w es silent j.row)
      (still_job o (h ++ es) s _ j.row (with_stage Ending j) refl (inr refl)))

  -- the row is left, and a stack may be marked
  pub left_workable : (es : List Entry) → AreUncalling es → (r : Row) → row_at s.rows j.row ≡ Some r
      → (f : Option Stack)
      → ((st : Stack) → f ≡ Some st → IsSome (stack_at s.stacks st.name))
      → Workable o (h ++ es) (applied (left_changes e r ++ mark_failed f) s)
  left_workable es silent r at None in_table = done o h s w (left_changes e r ++ []) es e j.row (number, (tt, tt))
      (ended_kept o h s w es silent e j its (applied (left_changes e r ++ []) s) refl refl refl
      (rows_unlocked o h s w es silent j.row (Some r) at)) where
        number : r.no < s.next.row
        number = let key = row-key s.rows j.row r at in let lt = w.drawn.jobs e j its in omega (arith, key, lt)
  left_workable es silent r at (Some st) in_table = done o h s w (left_changes e r ++ mark_failed (Some st)) es e j.row
      (number, (tt, (in_table st refl, tt)))
      (ended_kept o h s w es silent e j its (applied (left_changes e r ++ mark_failed (Some st)) s) refl refl refl
      (rows_unlocked o h s w es silent j.row (Some r) at)) where
        number : r.no < s.next.row
        number = let key = row-key s.rows j.row r at in let lt = w.drawn.jobs e j its in omega (arith, key, lt)

  pub just_left : (es : List Entry) → AreUncalling es → (r : Row) → row_at s.rows j.row ≡ Some r
      → Workable o (h ++ es) (applied (left_changes e r) s)
  just_left es silent r at = done o h s w (left_changes e r) es e j.row (number, (tt, tt))
      (ended_kept o h s w es silent e j its (applied (left_changes e r) s) refl refl refl
      (rows_unlocked o h s w es silent j.row (Some r) at)) where
        number : r.no < s.next.row
        number = let key = row-key s.rows j.row r at in let lt = w.drawn.jobs e j its in omega (arith, key, lt)

  -- the row goes, and what it asked for may be given up
  rows_cut : (g : List Entry) (r : Row) → row_at s.rows j.row ≡ Some r → RowsKept o g s (cut_row r.no s.rows) j.row
  rows_cut g r at = subst (λ (n : ℕ). RowsKept o g s (cut_row n s.rows) j.row) (sym (row-key s.rows j.row r at))
      (rows_cut_here o h g s w.drawn w.jobs w.cloud j.row)

  pub purged_workable : (es : List Entry) → AreUncalling es → (r : Row) → row_at s.rows j.row ≡ Some r
      → Workable o (h ++ es) (applied (purged_changes j r) s)
  purged_workable es silent r at = done o h s w (purged_changes j r) es e j.row (tt, (job_fits, tt))
      (restaged_kept es silent Ending (applied (purged_changes j r) s) refl refl (λ x c. inl c)
      (rows_cut (h ++ es) r at)
      (still_job o (h ++ es) s _ j.row (with_stage Ending j) refl (inr refl)))

  pub retained_workable : (es : List Entry) → AreUncalling es → (r : Row) → row_at s.rows j.row ≡ Some r
      → Workable o (h ++ es) (applied (retained_changes j r) s)
  retained_workable es silent r at = done o h s w (retained_changes j r) es e j.row (number, (tt, (job_fits, tt)))
      (restaged_kept es silent Ending (applied (retained_changes j r) s) refl refl given (rows_cut (h ++ es) r at)
      (still_job o (h ++ es) s _ j.row (with_stage Ending j) refl (inr refl)))
    where
      number : r.no < s.next.row
      number = let key = row-key s.rows j.row r at in let lt = w.drawn.jobs e j its in omega (arith, key, lt)

      given : (x : Token) → Contains (s.released ++ token_of r ∷ []) x
          → Contains s.released x ⊎ (row_at (cut_row r.no s.rows) x.row ≡ None)
      given x c = elim (Contains-append_cases s.released (token_of r ∷ []) x c) [
        | inl old ↦ inl old
        | inr new ↦ inr (subst (λ (t : Token). row_at (cut_row r.no s.rows) t.row ≡ None)
            (sym (only (token_of r) x new)) (row_gone r.no s.rows))
      ]

-- another row takes its place
module _ (o : Opening) (h : List Entry) (s : StateData) (w : Workable o h s) (e : ℕ) (k : Begins s e) where
  replaced_kept : (es : List Entry) → AreUncalling es → (props : Members)
      → Kept o h (h ++ es) s (applied (replaced_changes s e k props) s) e k.job.row
  replaced_kept es silent props = record {
    live = λ f c. inl c;
    rows = rows_replaced o h (h ++ es) s w.drawn w.jobs w.cloud k.job.row k.row (next_row s e k props)
        (replaced s.next.row k.row) k.found refl
        (let old = w.jobs.rows k.job.row k.row k.found in record { act = old.act; target = old.target }) (lived o h s w
        es silent k.job.row k.row (replaced s.next.row k.row) k.found refl (like_live k.row _ refl refl))
        refl (record { act = λ act. cc; target = λ up. cc }) (dead_begun (next_row s e k props) refl (λ act. cc));
    jobs = jobs_restaged s w.jobs e k.job (moved_job s k.job) k.works.its (holder o h s w e k.job k.works.its);
    own = λ q at. subst (OwnJob o (h ++ es) s (applied (replaced_changes s e k props) s) k.job.row)
        (own_is s.jobs (moved_job s k.job) q e (holder o h s w e k.job k.works.its) at) moved;
    could = λ x ne. could-silent o h es x silent;
    released = λ x c. inl c;
    once = w.once;
  } where
    old_number : k.row.no ≡ k.job.row
    old_number = row-key s.rows k.job.row k.row k.found

    apart : k.row.no ≢ s.next.row
    apart is = let lt = w.drawn.jobs e k.job k.works.its in let key = old_number in omega (arith, is, lt, key)

    moved : OwnJob o (h ++ es) s (applied (replaced_changes s e k props) s) k.job.row (moved_job s k.job)
    moved = asking_job o (h ++ es) s _ k.job.row (moved_job s k.job) (inr (omega arith)) refl (record {
      row = next_row s e k props;
      found = row_else (replaced s.next.row k.row) (put_row (next_row s e k props) s.rows) s.next.row apart
          ∙ row_here (next_row s e k props) s.rows;
      status = refl;
      act = creates;
    })

  pub replaced_workable : (es : List Entry) → AreUncalling es → (props : Members)
      → Workable o (h ++ es) (applied (replaced_changes s e k props) s)
  replaced_workable es silent props = done o h s w (replaced_changes s e k props) es e k.job.row (
    record { stack = omega arith; trav = omega arith; row = omega arith; engine = omega arith; letter = omega arith },
    (
      omega arith,
      (
        (let key = row-key s.rows k.job.row k.row k.found in let lt = w.drawn.jobs e k.job k.works.its in
            omega (arith, key, lt)),
        (
          (
            omega arith,
            (let key = holder o h s w e k.job k.works.its in let lt = w.drawn.holders e k.job k.works.its in
                omega (arith, key, lt)),
          ),
          tt,
        ),
      ),
    ),
  )
      (replaced_kept es silent props)
