-- What keeps `Locked`.
use Rattle.std.proofs.Common.{◌≡◌, ◌≢◌, inl, inr, ℕ, List, Some, None, refl, sym, ap, ◌∙◌, subst}
use Rattle.row_table.specs.Rows.{cut_row, put_row, row_at}
use Rattle.row_table.specs.declared.row.Row.{Row}
use Rattle.mail_table.specs.Mails.{cut_job, job_at, put_job}
use Rattle.mail_table.specs.declared.mail.Job.{Job}
use Rattle.step_relation.specs.Takes.{HasNoHolder}
use Rattle.step_relation.specs.Linked.{Locked}
use Rattle.history_laws.proofs.tables.Alike.{job_again, row_swapped, row_twice}
use Rattle.history_laws.proofs.tables.Rows.{job_cut, job_else, job_gone, job_here, job_kept, job_put, row_cut, row_here, row_put}
use Rattle.history_laws.proofs.tables.Rows.{same_or_not, same_some}

-- only what is found matters
pub Locked-same : (rows rows' : List Row) (jobs jobs' : List Job) → ((n : ℕ) → row_at rows' n ≡ row_at rows n)
    → ((e : ℕ) → job_at jobs' e ≡ job_at jobs e) → Locked rows jobs → Locked rows' jobs'
Locked-same rows rows' jobs jobs' same_row same_job old = record {
  held = λ n e r at_n is. let (j, at_e, on) = old.held n e r (sym (same_row n) ∙ at_n) is in
      (j, same_job e ∙ at_e, on);
  holds = λ e j r at_e at_n. old.holds e j r (sym (same_job e) ∙ at_e) (sym (same_row j.row) ∙ at_n);
  apart = λ e f j k at_e at_f. old.apart e f j k (sym (same_job e) ∙ at_e) (sym (same_job f) ∙ at_f);
}

-- a row is written with the engine that gets a job with it; before it nobody had the row, nor that engine a job
pub Locked-lock : (rows : List Row) (jobs : List Job) (q : Row) (j : Job) → q.engine ≡ Some j.engine
    → j.row ≡ q.no → job_at jobs j.engine ≡ None → HasNoHolder jobs q.no → Locked rows jobs → Locked
    (put_row q rows) (put_job j jobs)
Locked-lock rows jobs q j is on jobless free old = record { held = held; holds = holds; apart = apart } where
  held : (n e : ℕ) (r : Row) → row_at (put_row q rows) n ≡ Some r → r.engine ≡ Some e
      → (k : Job) × (job_at (put_job j jobs) e ≡ Some k) × (k.row ≡ n)
  held n e r at_n by = elim (row_put q rows at_n) [
    | inl new ↦ let s : q.engine ≡ Some e = rw new.1 by in let same : j.engine ≡ e = cc in
        (j, rw (← same) (job_here j jobs), on ∙ new.0)
    | inr was ↦ let (k, at_e, k_on) = old.held n e r was.1 by in
        (k, job_else j jobs e (λ eq. let none : job_at jobs e ≡ None = rw (← eq) jobless in cc) ∙ at_e, k_on)
  ]

  holds : (e : ℕ) (k : Job) (r : Row) → job_at (put_job j jobs) e ≡ Some k
      → row_at (put_row q rows) k.row ≡ Some r → r.engine ≡ Some e
  holds e k r at_e at_n = elim (job_put j jobs at_e) [
    | inl new ↦ let here : row_at (put_row q rows) k.row ≡ Some q = rw (← new.1, on) (row_here q rows) in
        let same : q ≡ r = same_some q r here at_n in rw (← same, is) (ap Some new.0)
    | inr was ↦ elim (row_put q rows at_n) [
      | inl new ↦ absurd (free e k was.1 (sym new.0))
      | inr there ↦ old.holds e k r was.1 there.1
    ]
  ]

  apart : (e f : ℕ) (k m : Job) → job_at (put_job j jobs) e ≡ Some k → job_at (put_job j jobs) f ≡ Some m
      → k.row ≡ m.row → e ≡ f
  apart e f k m at_e at_f same = elim (job_put j jobs at_e) [
    | inl new ↦ elim (job_put j jobs at_f) [
      | inl new' ↦ sym new.0 ∙ new'.0
      | inr was ↦ absurd (free f m was.1 (sym same ∙ (ap (λ (x : Job). x.row) (sym new.1) ∙ on)))
    ]
    | inr was ↦ elim (job_put j jobs at_f) [
      | inl new ↦ absurd (free e k was.1 (same ∙ (ap (λ (x : Job). x.row) (sym new.1) ∙ on)))
      | inr was' ↦ old.apart e f k m was.1 was'.1 same
    ]
  ]

-- the same, where the row isn't there any more
pub Locked-hold : (rows : List Row) (jobs : List Job) (j : Job) → row_at rows j.row ≡ None
    → job_at jobs j.engine ≡ None → HasNoHolder jobs j.row → Locked rows jobs → Locked rows (put_job j jobs)
Locked-hold rows jobs j gone jobless free old = record {
  held = λ n e r at_n by. let (k, at_e, k_on) = old.held n e r at_n by in
      (k, job_else j jobs e (λ eq. let none : job_at jobs e ≡ None = rw (← eq) jobless in cc) ∙ at_e, k_on);
  holds = λ e k r at_e at_n. elim (job_put j jobs at_e) [
    | inl new ↦ let none : row_at rows k.row ≡ None = rw (← new.1) gone in cc
    | inr was ↦ old.holds e k r was.1 at_n
  ];
  apart = λ e f k m at_e at_f same. elim (job_put j jobs at_e) [
    | inl new ↦ elim (job_put j jobs at_f) [
      | inl new' ↦ sym new.0 ∙ new'.0
      | inr was ↦ absurd (free f m was.1 (sym same ∙ ap (λ (x : Job). x.row) (sym new.1)))
    ]
    | inr was ↦ elim (job_put j jobs at_f) [
      | inl new ↦ absurd (free e k was.1 (same ∙ ap (λ (x : Job). x.row) (sym new.1)))
      | inr was' ↦ old.apart e f k m was.1 was'.1 same
    ]
  ];
}

-- a job ends, and its row is written with no engine
pub Locked-unlock : (rows : List Row) (jobs : List Job) (q : Row) (e : ℕ) (j : Job) → job_at jobs e ≡ Some j
    → j.row ≡ q.no → q.engine ≡ None → Locked rows jobs → Locked (put_row q rows) (cut_job e jobs)
Locked-unlock rows jobs q e j its on no_engine old = record {
  held = λ n f r at_n by. elim (row_put q rows at_n) [
    | inl new ↦ let s : q.engine ≡ Some f = rw new.1 by in cc
    | inr was ↦ let (k, at_f, k_on) = old.held n f r was.1 by in (
      k,
      job_kept e jobs f (λ eq. let at_e : job_at jobs e ≡ Some k = rw eq at_f in let same : j ≡ k =
          same_some j k its at_e in was.0 (sym on ∙ (ap (λ (x : Job). x.row) same ∙ k_on))) ∙ at_f,
      k_on,
    )
  ];
  holds = λ f k r at_f at_n. let was = job_cut e jobs at_f in elim (row_put q rows at_n) [
    | inl new ↦ absurd (was.0 (old.apart e f j k its was.1 (on ∙ new.0)))
    | inr there ↦ old.holds f k r was.1 there.1
  ];
  apart = λ f g k m at_f at_g. old.apart f g k m (job_cut e jobs at_f).1 (job_cut e jobs at_g).1;
}

-- the same, where the row isn't there any more
pub Locked-end : (rows : List Row) (jobs : List Job) (e : ℕ) (j : Job) → job_at jobs e ≡ Some j
    → row_at rows j.row ≡ None → Locked rows jobs → Locked rows (cut_job e jobs)
Locked-end rows jobs e j its gone old = record {
  held = λ n f r at_n by. let (k, at_f, k_on) = old.held n f r at_n by in (
    k,
    job_kept e jobs f (λ eq. let at_e : job_at jobs e ≡ Some k = rw eq at_f in let same : j ≡ k =
        same_some j k its at_e in let none : row_at rows n ≡ None = rw (← k_on, ← same) gone in cc) ∙ at_f,
    k_on,
  );
  holds = λ f k r at_f. old.holds f k r (job_cut e jobs at_f).1;
  apart = λ f g k m at_f at_g. old.apart f g k m (job_cut e jobs at_f).1 (job_cut e jobs at_g).1;
}

-- a job is written anew, with its engine and row
pub Locked-restage : (rows : List Row) (jobs : List Job) (j q : Job) → job_at jobs q.engine ≡ Some j
    → q.row ≡ j.row → Locked rows jobs → Locked rows (put_job q jobs)
Locked-restage rows jobs j q its on old = record {
  held = λ n e r at_n by. let (k, at_e, k_on) = old.held n e r at_n by in back n e k at_e k_on;
  holds = λ e k r at_e at_n. let (o, at_o, same) = were e k at_e in old.holds e o r at_o
      (subst (λ (n : ℕ). row_at rows n ≡ Some r) same at_n);
  apart = λ e f k m at_e at_f same. let (o, at_o, same_o) = were e k at_e in let (p, at_p, same_p) =
      were f m at_f in old.apart e f o p at_o at_p (sym same_o ∙ (same ∙ same_p));
} where
  were : (e : ℕ) (k : Job) → job_at (put_job q jobs) e ≡ Some k
      → (o : Job) × (job_at jobs e ≡ Some o) × (k.row ≡ o.row)
  were e k h = elim (job_put q jobs h) [
    | inl new ↦ (j, rw (← new.0) its, rw (← new.1) on)
    | inr was ↦ (k, was.1, refl)
  ]

  back : (n e : ℕ) (k : Job) → job_at jobs e ≡ Some k → k.row ≡ n
      → (m : Job) × (job_at (put_job q jobs) e ≡ Some m) × (m.row ≡ n)
  back n e k at_e on_n = elim (same_or_not q.engine e) [
    | inl eq ↦ let at_q : job_at jobs q.engine ≡ Some k = rw eq at_e in let same : j ≡ k = same_some j k its at_q in
        (q, rw (← eq) (job_here q jobs), on ∙ (ap (λ (x : Job). x.row) same ∙ on_n))
    | inr ne ↦ (k, job_else q jobs e ne ∙ at_e, on_n)
  ]

-- a row is written anew, with its engine
pub Locked-row : (rows : List Row) (jobs : List Job) (r q : Row) → row_at rows q.no ≡ Some r
    → q.engine ≡ r.engine → Locked rows jobs → Locked (put_row q rows) jobs
Locked-row rows jobs r q stood is old = record {
  held = λ n e a at_n by. let (o, at_o, same) = were n a at_n in old.held n e o at_o (sym same ∙ by);
  holds = λ e k a at_e at_n. let (o, at_o, same) = were k.row a at_n in same ∙ old.holds e k o at_e at_o;
  apart = old.apart;
} where
  were : (n : ℕ) (a : Row) → row_at (put_row q rows) n ≡ Some a
      → (o : Row) × (row_at rows n ≡ Some o) × (a.engine ≡ o.engine)
  were n a h = elim (row_put q rows h) [
    | inl new ↦ (r, rw (← new.0) stood, rw (← new.1) is)
    | inr was ↦ (a, was.1, refl)
  ]

-- another engine takes the job's row over
pub Locked-steal : (rows : List Row) (jobs : List Job) (r q : Row) (f : ℕ) (k j : Job)
    → row_at rows q.no ≡ Some r → job_at jobs f ≡ Some k → k.row ≡ q.no → q.engine ≡ Some j.engine → j.row ≡ q.no
    → job_at jobs j.engine ≡ None → Locked rows jobs → Locked (put_row q rows) (put_job j (cut_job f jobs))
Locked-steal rows jobs r q f k j stood its on is j_on jobless old =
    let free = record q { engine = None } in
    let ended : Locked (put_row free rows) (cut_job f jobs) = Locked-unlock rows jobs free f k its on refl old in
    let none : job_at (cut_job f jobs) j.engine ≡ None = jobless_still in
    let nobody : HasNoHolder (cut_job f jobs) q.no = λ e m at_e m_on. let was = job_cut f jobs at_e in was.0
    (old.apart f e k m its was.1 (on ∙ sym m_on)) in
    Locked-same _ _ _ _ (λ n. sym (row_twice q free rows refl n)) (λ e. refl)
    (Locked-lock _ _ q j is j_on none nobody ended) where
      jobless_still : job_at (cut_job f jobs) j.engine ≡ None
      jobless_still = job_kept f jobs j.engine (λ eq. let e : job_at jobs j.engine ≡ Some k = rw (← eq) its in
          cc) ∙ jobless

-- a job moves from its row to a new one
pub Locked-move : (rows : List Row) (jobs : List Job) (new old : Row) (k j : Job)
    → job_at jobs j.engine ≡ Some k → k.row ≡ old.no → old.engine ≡ None → new.engine ≡ Some j.engine
    → j.row ≡ new.no → old.no ≢ new.no → HasNoHolder jobs new.no → Locked rows jobs → Locked
    (put_row old (put_row new rows)) (put_job j jobs)
Locked-move rows jobs new old k j its on free is j_on apart nobody before =
    let ended : Locked (put_row old rows) (cut_job j.engine jobs) =
    Locked-unlock rows jobs old j.engine k its on free before in
    let none : job_at (cut_job j.engine jobs) j.engine ≡ None = job_gone j.engine jobs in
    Locked-same _ _ _ _ (λ n. row_swapped new old rows apart n) (λ e. sym (job_again j jobs e))
    (Locked-lock _ _ new j is j_on none (λ e m at_e. nobody e m (job_cut j.engine jobs at_e).1) ended)

-- another engine takes the job over, whose row isn't there any more
pub Locked-steal_gone : (rows : List Row) (jobs : List Job) (f : ℕ) (k j : Job) → row_at rows k.row ≡ None
    → job_at jobs f ≡ Some k → j.row ≡ k.row → job_at jobs j.engine ≡ None → Locked rows jobs → Locked rows
    (put_job j (cut_job f jobs))
Locked-steal_gone rows jobs f k j gone its on jobless old =
    Locked-hold rows (cut_job f jobs) j (subst (λ (n : ℕ). row_at rows n ≡ None) (sym on) gone)
    (job_kept f jobs j.engine (λ eq. let e : job_at jobs j.engine ≡ Some k = rw (← eq) its in cc) ∙ jobless)
    (λ e m at_e m_on. let was = job_cut f jobs at_e in was.0 (old.apart f e k m its was.1 (sym on ∙ sym m_on)))
    (Locked-end rows jobs f k its gone old)

-- a job's row goes
pub Locked-purge : (rows : List Row) (jobs : List Job) (c : ℕ) → Locked rows jobs → Locked (cut_row c rows) jobs
Locked-purge rows jobs c old = record {
  held = λ n e r at_n by. old.held n e r (row_cut c rows at_n).1 by;
  holds = λ e j r at_e at_n. old.holds e j r at_e (row_cut c rows at_n).1;
  apart = old.apart;
}

-- a row is written that no engine has, under a number that no job has
pub Locked-fresh : (rows : List Row) (jobs : List Job) (q : Row) → q.engine ≡ None → HasNoHolder jobs q.no
    → Locked rows jobs → Locked (put_row q rows) jobs
Locked-fresh rows jobs q free nobody old = record {
  held = λ n e r at_n by. elim (row_put q rows at_n) [
    | inl new ↦ let s : q.engine ≡ Some e = rw new.1 by in cc
    | inr was ↦ old.held n e r was.1 by
  ];
  holds = λ e j r at_e at_n. elim (row_put q rows at_n) [
    | inl new ↦ absurd (nobody e j at_e (sym new.0))
    | inr was ↦ old.holds e j r at_e was.1
  ];
  apart = old.apart;
}
