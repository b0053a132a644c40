-- The writes of a step to rows and jobs, at one row.
use Rattle.std.proofs.Common.{◌≡◌, inl, inr, ◌<◌, ◌≤◌, ℕ, List, Some, refl, sym, ap, subst, ◌∙◌, arith}
use Rattle.std.specs.Prelude.{Contains, IsSome}
use Rattle.heat_plan.specs.declared.token.Token.{Token}
use Rattle.provider.specs.Table.{TokenState}
use Rattle.row_table.specs.Rows.{cut_row, put_row, row_at}
use Rattle.row_table.specs.declared.row.Row.{Row}
use Rattle.mail_table.specs.Mails.{cut_job, job_at, put_job}
use Rattle.mail_table.specs.declared.mail.Job.{Job}
use Rattle.core_state.specs.State.{StateData}
use Rattle.core_state.specs.declared.entry.Entry.{Entry}
use Rattle.step_relation.specs.Rows.{token_of}
use Rattle.step_relation.specs.Takes.{HasNoHolder}
use Rattle.step_relation.specs.Could.{could_of}
use Rattle.step_relation.specs.Opening.{Opening}
use Rattle.history_laws.proofs.tables.Rows.{job_cut, job_put, row-key, row_cut, row_else, row_kept, row_put}
use Rattle.workable_laws.specs.Workable.{CloudFits, Drawn, JobsStand, MustLive, RowStands}
use Rattle.workable_laws.proofs.Kept.{IsWritten, JobsKept, RowsKept}

module _ (o : Opening) (h g : List Entry) (s : StateData) (d : Drawn s) (js : JobsStand s) (c : CloudFits o h s) where
  -- a row found at its number, where what may be alive is as before
  same_written : (m n : ℕ) (q : Row) → row_at s.rows n ≡ Some q → n ≡ m
      → (MustLive q → (x : TokenState) → Contains (could_of o g (token_of q)) x → IsSome x) → IsWritten o g s m n q
  same_written m n q at is lives = record {
    stands = js.rows n q at;
    lives = lives;
    token = λ e lt. (q, subst (λ (k : ℕ). row_at s.rows k ≡ Some q) is at, refl);
  }

  none_new : (n : ℕ) (q : Row) → row_at s.rows n ≡ Some q → s.next.row ≤ n → ⊥
  none_new n q at le = let lt = d.rows n q at in omega (arith, lt, le)

  -- nothing is written; what may be alive under the one token is told
  pub rows_untouched : (m : ℕ) → ((q : Row) → row_at s.rows m ≡ Some q → MustLive q → (x : TokenState)
      → Contains (could_of o g (token_of q)) x → IsSome x)
      → RowsKept o g s s.rows m
  rows_untouched m lives = record {
    else_ = λ n ne lt. refl;
    written = λ n q at where_. elim where_ [
      | inl is ↦ same_written m n q at is (lives q (subst (λ (k : ℕ). row_at s.rows k ≡ Some q) is at))
      | inr le ↦ absurd (none_new n q at le)
    ];
  }

  -- the row is written anew
  pub rows_put_here : (m : ℕ) (r q : Row) → row_at s.rows m ≡ Some r → token_of q ≡ token_of r → RowStands q
      → (MustLive q → (x : TokenState) → Contains (could_of o g (token_of q)) x → IsSome x)
      → RowsKept o g s (put_row q s.rows) m
  rows_put_here m r q at token stands lives =
      let number : q.no ≡ m = ap (λ (y : Token). y.row) token ∙ row-key s.rows m r at in record {
        else_ = λ n ne lt. row_else q s.rows n (λ e. ne (sym e ∙ number));
        written = λ n p found where_. elim (row_put q s.rows found) [
          | inl new ↦ subst (IsWritten o g s m n) new.1
              (record { stands = stands; lives = lives; token = λ e lt. (r, at, token) })
          | inr old ↦ elim where_ [
            | inl is ↦ absurd (old.0 (number ∙ sym is))
            | inr le ↦ absurd (none_new n p old.1 le)
          ]
        ];
      }

  -- the row goes
  pub rows_cut_here : (m : ℕ) → RowsKept o g s (cut_row m s.rows) m
  rows_cut_here m = record {
    else_ = λ n ne lt. row_kept m s.rows n (λ e. ne (sym e));
    written = λ n q found where_. let (off, old) = row_cut m s.rows found in elim where_ [
      | inl is ↦ absurd (off (sym is))
      | inr le ↦ absurd (none_new n q old le)
    ];
  }

  -- another row takes its place
  pub rows_replaced : (m : ℕ) (r q p : Row) → row_at s.rows m ≡ Some r → token_of p ≡ token_of r → RowStands p
      → (MustLive p → (x : TokenState) → Contains (could_of o g (token_of p)) x → IsSome x)
      → q.no ≡ s.next.row → RowStands q → (MustLive q → ⊥) → RowsKept o g s (put_row p (put_row q s.rows)) m
  rows_replaced m r q p at token stands lives fresh new_stands dead =
      let number : p.no ≡ m = ap (λ (y : Token). y.row) token ∙ row-key s.rows m r at in
      let below : m < s.next.row = d.rows m r at in record {
        else_ = λ n ne lt. row_else p (put_row q s.rows) n (λ e. ne (sym e ∙ number))
            ∙ row_else q s.rows n (λ e. omega (arith, lt, fresh, e));
        written = λ n x found where_. elim (row_put p (put_row q s.rows) found) [
          | inl new ↦ subst (IsWritten o g s m n) new.1
              (record { stands = stands; lives = lives; token = λ e lt. (r, at, token) })
          | inr old ↦ elim (row_put q s.rows old.1) [
            | inl own ↦ subst (IsWritten o g s m n) own.1 (record {
              stands = new_stands;
              lives = λ must. absurd (dead must);
              token = λ e lt. let at_next = own.0 in absurd (omega (arith, lt, at_next, fresh));
            })
            | inr older ↦ elim where_ [
              | inl is ↦ absurd (old.0 (number ∙ sym is))
              | inr le ↦ absurd (none_new n x older.1 le)
            ]
          ]
        ];
      }

module _ (s : StateData) (js : JobsStand s) where
  -- the engine's job changes
  pub jobs_restaged : (e : ℕ) (j k : Job) → job_at s.jobs e ≡ Some j → k.engine ≡ e
      → JobsKept s (put_job k s.jobs) e j.row
  jobs_restaged e j k its is = record {
    else_ = λ f i at ne. elim (job_put k s.jobs at) [
      | inl new ↦ absurd (ne (sym new.0 ∙ is))
      | inr old ↦ (old.1, λ same. ne (js.apart f e i j old.1 its same))
    ];
  }

  -- it ends
  pub jobs_ended : (e : ℕ) (j : Job) → job_at s.jobs e ≡ Some j → JobsKept s (cut_job e s.jobs) e j.row
  jobs_ended e j its = record {
    else_ = λ f i at ne. let (off, old) = job_cut e s.jobs at in (old, λ same. ne (js.apart f e i j old its same));
  }

  -- it begins, at a row that nobody has
  pub jobs_taken : (e n : ℕ) (k : Job) → HasNoHolder s.jobs n → k.engine ≡ e → JobsKept s (put_job k s.jobs) e n
  jobs_taken e n k free is = record {
    else_ = λ f i at ne. elim (job_put k s.jobs at) [
      | inl new ↦ absurd (ne (sym new.0 ∙ is))
      | inr old ↦ (old.1, λ same. free f i old.1 same)
    ];
  }

  -- or that a stopped engine had
  pub jobs_stolen : (e n f : ℕ) (j k : Job) → job_at s.jobs f ≡ Some j → j.row ≡ n → k.engine ≡ e
      → JobsKept s (put_job k (cut_job f s.jobs)) e n
  jobs_stolen e n f j k its on is = record {
    else_ = λ f' i at ne. elim (job_put k (cut_job f s.jobs) at) [
      | inl new ↦ absurd (ne (sym new.0 ∙ is))
      | inr old ↦ (let (off, older) = job_cut f s.jobs old.1 in
          (older, λ same. off (sym (js.apart f' f i j older its (same ∙ sym on)))))
    ];
  }

  -- nothing changes
  pub jobs_same : (e : ℕ) (j : Job) → job_at s.jobs e ≡ Some j → JobsKept s s.jobs e j.row
  jobs_same e j its = record { else_ = λ f i at ne. (at, λ same. ne (js.apart f e i j at its same)) }
