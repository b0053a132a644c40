-- Takes, and jobs that end without a call.
use Rattle.std.proofs.Common.{◌≡◌, inl, inr, ◌<◌, ◌≤◌, ℕ, ◌+◌, List, [], ◌∷◌, ◌++◌, length, Option, Some, None, refl}
use Rattle.std.proofs.Common.{sym, ap, subst, ◌∙◌, arith}
use Rattle.std.specs.Prelude.{Contains, IsSome}
use Rattle.heat_plan.specs.declared.phase.Act.{Act}
use Rattle.heat_plan.specs.declared.phase.Act.TheVariants.{Delete}
use Rattle.heat_plan.specs.declared.token.Token.{Token}
use Rattle.row_table.specs.Rows.{put_row, row_at}
use Rattle.row_table.specs.declared.row.Row.{Row}
use Rattle.mail_table.specs.Mails.{cut_job, job_at, put_job}
use Rattle.mail_table.specs.declared.mail.Job.{Job}
use Rattle.mail_table.specs.declared.mail.Letter.{Letter}
use Rattle.core_state.specs.Changes.{applied}
use Rattle.core_state.specs.State.{StateData, stack_at}
use Rattle.core_state.specs.declared.change.Change.{Change}
use Rattle.core_state.specs.declared.change.Change.TheVariants.{Drop, EndJob, PutJob}
use Rattle.core_state.specs.declared.entry.Entry.{Entry}
use Rattle.core_state.specs.declared.numbers.Numbers.{Numbers}
use Rattle.core_state.specs.declared.stack.Stack.{Stack}
use Rattle.step_relation.specs.Finishes.{Finishes, finished_changes, given_input, ready_letters}
use Rattle.step_relation.specs.Freshness.{IsFresh}
use Rattle.step_relation.specs.Inputs.{passed_points}
use Rattle.step_relation.specs.Resends.{Resends, cleanup, nobody, update}
use Rattle.step_relation.specs.Rows.{locked, token_of, unlocked}
use Rattle.step_relation.specs.Takes.{HasNoHolder, IsHolder, Takes, released_changes, taken_job}
use Rattle.step_relation.specs.Writes.{letter_to, letters_to, lock, mark_complete, unlock}
use Rattle.step_relation.specs.Opening.{Opening}
use Rattle.history_laws.proofs.tables.Rows.{row-key, stack-key}
use Rattle.history_laws.proofs.tells.Silence.{AreUncalling, could-silent}
use Rattle.history_laws.proofs.agrees.Ends.{finished_end, finished_state, released_end, released_state, unlocked_rows}
use Rattle.next_laws.proofs.Listings.{cons_cases, no_member}
use Rattle.step_relation.specs.Numbered.{EachOnce}
use Rattle.workable_laws.specs.Workable.{Workable}
use Rattle.workable_laws.proofs.Drawing.{AllFit, draw_fits, past_drawn, points_fit, sends_all, sends_fit}
use Rattle.workable_laws.proofs.Kept.{JobsKept, Kept, OwnJob, RowsKept}
use Rattle.workable_laws.proofs.Own.{done, like_live, lived, own_is, own_none, still_job, target_drawn}
use Rattle.heat_plan.specs.declared.phase.Act.TheVariants as acts
use Rattle.workable_laws.proofs.Tables.{jobs_ended, jobs_stolen, jobs_taken, rows_put_here, rows_untouched}

-- the stack of what has work is in the table
pub fresh_some : (s : StateData) (l : Letter) (n : ℕ) (k : IsFresh s l n) → IsSome (stack_at s.stacks k.stack.name)
fresh_some s l n k = subst (λ (m : List ℕ). IsSome (stack_at s.stacks m))
    (sym (stack-key s.stacks l.stack k.stack k.names.in_table)) (rw k.names.in_table refl)

abbrev pub locked_rows : ℕ → Option Row → List Row → List Row
locked_rows e None rows = rows
locked_rows e (Some r) rows = put_row (locked e r) rows

module _ (o : Opening) (h : List Entry) (s : StateData) (w : Workable o h s) where
  -- a row that is locked or unlocked, where it stands
  relocked : (es : List Entry) → AreUncalling es → (m : ℕ) (r q : Row) → row_at s.rows m ≡ Some r
      → token_of q ≡ token_of r → q.status ≡ r.status
      → q.act ≡ r.act → q.target ≡ r.target → RowsKept o (h ++ es) s (put_row q s.rows) m
  relocked es silent m r q at token status act target =
      rows_put_here o h (h ++ es) s w.drawn w.jobs w.cloud m r q at token
      (let old = w.jobs.rows m r at in record {
        act = λ e. old.act (sym act ∙ e);
        target = λ up under. subst IsSome (sym target) (old.target (sym act ∙ up) (sym status ∙ under));
      }) (lived o h s w es silent m r q at token (like_live r q status act))

  pub untouched : (es : List Entry) → AreUncalling es → (m : ℕ) → RowsKept o (h ++ es) s s.rows m
  untouched es silent m = rows_untouched o h (h ++ es) s w.drawn w.jobs w.cloud m
      (λ q at must x among. lived o h s w es silent m q q at refl (λ y. y) must x among)

  pub rows_locked : (es : List Entry) → AreUncalling es → (e m : ℕ) (row : Option Row) → row_at s.rows m ≡ row
      → RowsKept o (h ++ es) s (locked_rows e row s.rows) m
  rows_locked es silent e m None at = untouched es silent m
  rows_locked es silent e m (Some r) at = relocked es silent m r (locked e r) at refl refl refl refl

  pub rows_unlocked : (es : List Entry) → AreUncalling es → (m : ℕ) (row : Option Row) → row_at s.rows m ≡ row
      → RowsKept o (h ++ es) s (unlocked_rows row s.rows) m
  rows_unlocked es silent m None at = untouched es silent m
  rows_unlocked es silent m (Some r) at = relocked es silent m r (unlocked r) at refl refl refl refl

  -- takes
  module _ (e : ℕ) (k : Takes s e) where
    abbrev m : ℕ
    m = k.meant.target

    new_job : (g : List Entry) (t : StateData) (jobs : List Job) → (q : Job)
        → job_at (put_job (taken_job s e k) jobs) e ≡ Some q → OwnJob o g s t m q
    new_job g t jobs q at = subst (OwnJob o g s t m) (own_is jobs (taken_job s e k) q e refl at)
        (still_job o g s t m (taken_job s e k) refl (inl refl))

    below : m < s.next.row
    below =
        let f = k.meant.fresh in
        target_drawn o h s w k.letter.stack f.graph k.letter.node f.node m f.names.its_graph f.names.its_node k.meant.to

    number : (r : Row) → k.meant.fresh.row ≡ Some r → r.no < s.next.row
    number r is = let at = k.meant.fresh.found ∙ is in let key = row-key s.rows m r at in
        let lt = w.drawn.rows m r at in omega (arith, key, lt)

    free_kept : (es : List Entry) → AreUncalling es → HasNoHolder s.jobs m → (row : Option Row) → row_at s.rows m ≡ row
        → Kept o h (h ++ es) s (applied (lock row e (Drop k.letter.no ∷ PutJob (taken_job s e k) ∷ [])) s) e m
    free_kept es silent free None at = record {
      live = λ f c. inl c;
      rows = rows_locked es silent e m None at;
      jobs = jobs_taken s w.jobs e m (taken_job s e k) free refl;
      own = new_job (h ++ es) _ s.jobs;
      could = λ x ne. could-silent o h es x silent;
      released = λ x c. inl c;
      once = w.once;
    }
    free_kept es silent free (Some r) at = record {
      live = λ f c. inl c;
      rows = rows_locked es silent e m (Some r) at;
      jobs = jobs_taken s w.jobs e m (taken_job s e k) free refl;
      own = new_job (h ++ es) _ s.jobs;
      could = λ x ne. could-silent o h es x silent;
      released = λ x c. inl c;
      once = w.once;
    }

    stolen_kept : (es : List Entry) → AreUncalling es → (f : ℕ) (j : Job) → IsHolder s.jobs m f j → (row : Option Row)
        → row_at s.rows m ≡ row
        → Kept o h (h ++ es) s
        (applied (lock row e (Drop k.letter.no ∷ EndJob f ∷ PutJob (taken_job s e k) ∷ [])) s) e m
    stolen_kept es silent f j holds None at = record {
      live = λ f c. inl c;
      rows = rows_locked es silent e m None at;
      jobs = jobs_stolen s w.jobs e m f j (taken_job s e k) holds.its holds.has refl;
      own = new_job (h ++ es) _ (cut_job f s.jobs);
      could = λ x ne. could-silent o h es x silent;
      released = λ x c. inl c;
      once = w.once;
    }
    stolen_kept es silent f j holds (Some r) at = record {
      live = λ f c. inl c;
      rows = rows_locked es silent e m (Some r) at;
      jobs = jobs_stolen s w.jobs e m f j (taken_job s e k) holds.its holds.has refl;
      own = new_job (h ++ es) _ (cut_job f s.jobs);
      could = λ x ne. could-silent o h es x silent;
      released = λ x c. inl c;
      once = w.once;
    }

    job_fits : (m < s.next.row) × (e < s.next.engine)
    job_fits = (below, w.drawn.live e k.next.live)

    free_fits : (row : Option Row) → k.meant.fresh.row ≡ row
        → AllFit s s.next (lock row e (Drop k.letter.no ∷ PutJob (taken_job s e k) ∷ []))
    free_fits None is = (tt, (job_fits, tt))
    free_fits (Some r) is = (number r is, (tt, (job_fits, tt)))

    stolen_fits : (f : ℕ) (row : Option Row) → k.meant.fresh.row ≡ row
        → AllFit s s.next (lock row e (Drop k.letter.no ∷ EndJob f ∷ PutJob (taken_job s e k) ∷ []))
    stolen_fits f None is = (tt, (tt, (job_fits, tt)))
    stolen_fits f (Some r) is = (number r is, (tt, (tt, (job_fits, tt))))

    pub free_workable : (es : List Entry) → AreUncalling es → HasNoHolder s.jobs m
        → Workable o (h ++ es) (applied (lock k.meant.fresh.row e (Drop k.letter.no ∷ PutJob (taken_job s e k) ∷ [])) s)
    free_workable es silent free = done o h s w _ es e m (free_fits k.meant.fresh.row refl)
        (free_kept es silent free k.meant.fresh.row k.meant.fresh.found)

    pub stolen_workable : (es : List Entry) → AreUncalling es → (f : ℕ) (j : Job) → IsHolder s.jobs m f j
        → Workable o (h ++ es)
        (applied (lock k.meant.fresh.row e (Drop k.letter.no ∷ EndJob f ∷ PutJob (taken_job s e k) ∷ [])) s)
    stolen_workable es silent f j holds =
        done o h s w _ es e m (stolen_fits f k.meant.fresh.row refl)
        (stolen_kept es silent f j holds k.meant.fresh.row k.meant.fresh.found)

  -- a job ends, and letters are sent
  pub row_number : (m : ℕ) (r : Row) → row_at s.rows m ≡ Some r → r.no < s.next.row
  row_number m r at = let key = row-key s.rows m r at in let lt = w.drawn.rows m r at in omega (arith, key, lt)

  unlock_fits : (next : Numbers) → s.next.row ≤ next.row → (m : ℕ) (row : Option Row) → row_at s.rows m ≡ row
      → (rest : List Change) → AllFit s next rest
      → AllFit s next (unlock row rest)
  unlock_fits next up m None at rest fits = fits
  unlock_fits next up m (Some r) at rest fits = (let lt = row_number m r at in omega (arith, lt, up), fits)

  pub row_up : (ls : List Letter) → s.next.row ≤ (past_drawn s.next ls).row
  row_up [] = omega arith
  row_up (l ∷ ls) = omega arith

  pub ended_kept : (es : List Entry) → AreUncalling es → (f : ℕ) (j : Job) → job_at s.jobs f ≡ Some j → (t : StateData)
      → t.live ≡ s.live
      → t.jobs ≡ cut_job f s.jobs → t.released ≡ s.released → RowsKept o (h ++ es) s t.rows j.row
      → Kept o h (h ++ es) s t f j.row
  ended_kept es silent f j its t lives jobs tokens rows = record {
    live = λ e c. inl (subst (λ (l : List ℕ). Contains l e) lives c);
    rows = rows;
    jobs = subst (λ (l : List Job). JobsKept s l f j.row) (sym jobs) (jobs_ended s w.jobs f j its);
    own = λ q at. absurd (own_none s.jobs q f (subst (λ (l : List Job). job_at l f ≡ Some q) jobs at));
    could = λ x ne. could-silent o h es x silent;
    released = λ x c. inl (subst (λ (l : List Token). Contains l x) tokens c);
    once = subst EachOnce (sym lives) w.once;
  }

  pub letters_under : (ls : List Letter) → ((l : Letter) → Contains ls l → l.no < s.next.letter + length ls)
      → (l : Letter) → Contains ls l
      → l.no < (past_drawn s.next ls).letter
  letters_under [] under l c = absurd (no_member l c)
  letters_under (x ∷ xs) under l c = under l c

  pub released_workable : (es : List Entry) → AreUncalling es → (f : ℕ) (j : Job) → job_at s.jobs f ≡ Some j
      → (row : Option Row) → row_at s.rows j.row ≡ row
      → (ls : List Letter) → ((l : Letter) → Contains ls l → l.no < s.next.letter + length ls)
      → Workable o (h ++ es) (applied (released_changes s f row ls) s)
  released_workable es silent f j its row at ls under = done o h s w (released_changes s f row ls) es f j.row
      (draw_fits s s.next ls _ (unlock_fits (past_drawn s.next ls) (row_up ls) j.row row at _
      (tt, sends_all s (past_drawn s.next ls) ls (letters_under ls under))))
      (subst (λ (t : StateData). Kept o h (h ++ es) s t f j.row) (sym (released_end s f row ls))
      (ended_kept es silent f j its (released_state s f row ls) refl refl refl (rows_unlocked es silent j.row row at)))

  -- a job is finished
  pub letters_to_under : (st : Stack) (n : ℕ) (nodes : List ℕ) (l : Letter) → Contains (letters_to st n nodes) l
      → l.no < n + length (letters_to st n nodes)
  letters_to_under st n [] l c = absurd (no_member l c)
  letters_to_under st n (node ∷ nodes) l c = elim (cons_cases (letters_to st (n + 1) nodes) (letter_to st n node) l c) [
    | inl is ↦ (let e : l.no ≡ n = ap (λ (x : Letter). x.no) is in omega (arith, e))
    | inr later ↦ (let lt = letters_to_under st (n + 1) nodes l later in omega (arith, lt))
  ]

  pub mark_fits : (first : StateData) (next : Numbers) (st : Stack) → IsSome (stack_at first.stacks st.name)
      → AllFit first next (mark_complete st)
  mark_fits first next st some = by st.act where
    by : (a : Act) → AllFit first next (mark_complete (record st { act = a }))
    by Delete = (tt, tt)
    by acts.Init = (some, tt)
    by acts.Create = (some, tt)
    by acts.Update = (some, tt)
    by acts.Rollback = (some, tt)

  -- a mark leaves rows, jobs, tokens and engines
  marked_kept : (g : List Entry) (t : StateData) (st : Stack) (e m : ℕ) → Kept o h g s t e m
      → Kept o h g s (applied (mark_complete st) t) e m
  marked_kept g t st e m k = by st.act where
    by : (a : Act) → Kept o h g s (applied (mark_complete (record st { act = a })) t) e m
    by Delete = record {
      live = k.live;
      rows = k.rows;
      jobs = k.jobs;
      own = λ q at. again q (k.own q at);
      could = k.could;
      released = k.released;
      once = k.once;
    } where
      again : (q : Job) → OwnJob o g s t m q → OwnJob o g s (applied (mark_complete (record st { act = Delete })) t) m q
      again q x = record {
        place = x.place;
        called = λ way. let c = x.called way in
            record { row = c.row; found = c.found; status = c.status; act = c.act };
        polled = x.polled;
      }
    by acts.Init = record {
      live = k.live;
      rows = k.rows;
      jobs = k.jobs;
      own = λ q at. again q (k.own q at);
      could = k.could;
      released = k.released;
      once = k.once;
    } where
      again : (q : Job) → OwnJob o g s t m q
          → OwnJob o g s (applied (mark_complete (record st { act = acts.Init })) t) m q
      again q x = record {
        place = x.place;
        called = λ way. let c = x.called way in
            record { row = c.row; found = c.found; status = c.status; act = c.act };
        polled = x.polled;
      }
    by acts.Create = record {
      live = k.live;
      rows = k.rows;
      jobs = k.jobs;
      own = λ q at. again q (k.own q at);
      could = k.could;
      released = k.released;
      once = k.once;
    } where
      again : (q : Job) → OwnJob o g s t m q
          → OwnJob o g s (applied (mark_complete (record st { act = acts.Create })) t) m q
      again q x = record {
        place = x.place;
        called = λ way. let c = x.called way in
            record { row = c.row; found = c.found; status = c.status; act = c.act };
        polled = x.polled;
      }
    by acts.Update = record {
      live = k.live;
      rows = k.rows;
      jobs = k.jobs;
      own = λ q at. again q (k.own q at);
      could = k.could;
      released = k.released;
      once = k.once;
    } where
      again : (q : Job) → OwnJob o g s t m q
          → OwnJob o g s (applied (mark_complete (record st { act = acts.Update })) t) m q
      again q x = record {
        place = x.place;
        called = λ way. let c = x.called way in
            record { row = c.row; found = c.found; status = c.status; act = c.act };
        polled = x.polled;
      }
    by acts.Rollback = record {
      live = k.live;
      rows = k.rows;
      jobs = k.jobs;
      own = λ q at. again q (k.own q at);
      could = k.could;
      released = k.released;
      once = k.once;
    } where
      again : (q : Job) → OwnJob o g s t m q
          → OwnJob o g s (applied (mark_complete (record st { act = acts.Rollback })) t) m q
      again q x = record {
        place = x.place;
        called = λ way. let c = x.called way in
            record { row = c.row; found = c.found; status = c.status; act = c.act };
        polled = x.polled;
      }

  module _ (e : ℕ) (k : Finishes s e) where
    ready_under : (l : Letter) → Contains (ready_letters s e k) l → l.no < s.next.letter + length (ready_letters s e k)
    ready_under l c = letters_to_under k.fresh.stack s.next.letter k.ready l c

    finish_fits : (mark : List Change) → AllFit s (past_drawn s.next (ready_letters s e k)) mark
        → AllFit s s.next (finished_changes s e k mark)
    finish_fits mark fits =
        let ls = ready_letters s e k in
        draw_fits s s.next ls _ (unlock_fits (past_drawn s.next ls) (row_up ls) k.job.row k.fresh.row k.fresh.found _ (
          tt,
          points_fit s (past_drawn s.next ls)
              (passed_points k.fresh.graph k.job.letter.node (given_input s e k) k.succs) _
              (sends_fit s (past_drawn s.next ls) ls mark (letters_under ls ready_under) fits),
        ))

    finish_kept : (es : List Entry) → AreUncalling es → Kept o h (h ++ es) s (finished_state s e k) e k.job.row
    finish_kept es silent = ended_kept es silent e k.job k.works.its (finished_state s e k) refl refl refl
        (rows_unlocked es silent k.job.row k.fresh.row k.fresh.found)

    pub finish_workable : (es : List Entry) → AreUncalling es
        → Workable o (h ++ es) (applied (finished_changes s e k []) s)
    finish_workable es silent = done o h s w (finished_changes s e k []) es e k.job.row (finish_fits [] tt)
        (subst (λ (t : StateData). Kept o h (h ++ es) s t e k.job.row) (sym (finished_end s e k []))
        (finish_kept es silent))

    pub last_workable : (es : List Entry) → AreUncalling es
        → Workable o (h ++ es) (applied (finished_changes s e k (mark_complete k.fresh.stack)) s)
    last_workable es silent = done o h s w (finished_changes s e k (mark_complete k.fresh.stack)) es e k.job.row
        (finish_fits (mark_complete k.fresh.stack)
        (mark_fits s _ k.fresh.stack (fresh_some s k.job.letter k.job.row k.fresh)))
        (subst (λ (t : StateData). Kept o h (h ++ es) s t e k.job.row)
        (sym (finished_end s e k (mark_complete k.fresh.stack)))
        (marked_kept (h ++ es) (finished_state s e k) k.fresh.stack e k.job.row (finish_kept es silent)))

-- the letters of a release are new ones
pub resends_under : (s : StateData) (name : List ℕ) (n : ℕ) (ls : List Letter) → Resends s name n ls → (l : Letter)
    → Contains ls l
    → l.no < s.next.letter + length ls
resends_under s name n ls (update st g i has least) l c = elim (cons_cases [] (letter_to st s.next.letter i) l c) [
  | inl is ↦ (let e : l.no ≡ s.next.letter = ap (λ (x : Letter). x.no) is in omega (arith, e))
  | inr none ↦ absurd (no_member l none)
]
resends_under s name n ls (cleanup st g i has none_ least) l c =
    elim (cons_cases [] (letter_to st s.next.letter i) l c) [
      | inl is ↦ (let e : l.no ≡ s.next.letter = ap (λ (x : Letter). x.no) is in omega (arith, e))
      | inr none ↦ absurd (no_member l none)
    ]
resends_under s name n ls (nobody a b) l c = absurd (no_member l c)
