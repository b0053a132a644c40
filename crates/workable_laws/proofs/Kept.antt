-- What a step that works at one row leaves: other rows, jobs and tokens as they were.
use Rattle.std.proofs.Common.{◌≡◌, ◌≢◌, ◌⊎◌, inl, inr, ◌<◌, ◌≤◌, ℕ, List, Some, None, sym, subst, ◌∙◌, arith}
use Rattle.std.specs.Prelude.{Contains, IsSome}
use Rattle.heat_plan.specs.declared.token.Token.{Token}
use Rattle.provider.specs.Table.{TokenState}
use Rattle.row_table.specs.Rows.{row_at}
use Rattle.row_table.specs.declared.row.Row.{Row}
use Rattle.mail_table.specs.Mails.{job_at}
use Rattle.mail_table.specs.declared.mail.Job.{Job}
use Rattle.mail_table.specs.declared.mail.Stage.TheVariants.{Polling}
use Rattle.core_state.specs.State.{StateData}
use Rattle.core_state.specs.declared.entry.Entry.{Entry}
use Rattle.step_relation.specs.Rows.{token_of}
use Rattle.step_relation.specs.Could.{could_of}
use Rattle.step_relation.specs.Opening.{Opening}
use Rattle.step_relation.specs.MailFits.{IsUnderWay}
use Rattle.history_laws.proofs.tables.Rows.{row-key, same_or_not}
use Rattle.next_laws.proofs.Decide.{below_or_not}
use Rattle.step_relation.specs.Numbered.{EachOnce}
use Rattle.workable_laws.specs.Workable.{CloudFits, Drawn, IsCalled, JobsStand, MayPoll, MustLive, RowStands}

-- a row that the step wrote: at its own number, with its token, or at a new one
pub record IsWritten (o : Opening) (g : List Entry) (s : StateData) (m n : ℕ) (q : Row) : Type 0 where
  pub stands : RowStands q
  pub lives : MustLive q → (x : TokenState) → Contains (could_of o g (token_of q)) x → IsSome x
  pub token : n ≡ m → n < s.next.row → (r : Row) × (row_at s.rows m ≡ Some r) × (token_of q ≡ token_of r)

pub record RowsKept (o : Opening) (g : List Entry) (s : StateData) (rows : List Row) (m : ℕ) : Type 0 where
  pub else_ : (n : ℕ) → n ≢ m → n < s.next.row → row_at rows n ≡ row_at s.rows n
  pub written : (n : ℕ) (q : Row) → row_at rows n ≡ Some q → (n ≡ m) ⊎ (s.next.row ≤ n) → IsWritten o g s m n q

-- the other engines' jobs were there, and aren't at that row
pub record JobsKept (s : StateData) (jobs : List Job) (e m : ℕ) : Type 0 where
  pub else_ : (f : ℕ) (k : Job) → job_at jobs f ≡ Some k → f ≢ e → (job_at s.jobs f ≡ Some k) × (k.row ≢ m)

-- the engine's own job then
pub record OwnJob (o : Opening) (g : List Entry) (s t : StateData) (m : ℕ) (k : Job) : Type 0 where
  pub place : (k.row ≡ m) ⊎ (s.next.row ≤ k.row)
  pub called : IsUnderWay k.stage → IsCalled t k
  pub polled : k.stage ≡ Polling → (r : Row) (x : TokenState) → row_at t.rows k.row ≡ Some r
      → Contains (could_of o g (token_of r)) x
      → MayPoll r.act x

pub record Kept (o : Opening) (h g : List Entry) (s t : StateData) (e m : ℕ) : Type 0 where
  pub live : (f : ℕ) → Contains t.live f → Contains s.live f ⊎ (s.next.engine ≤ f)
  pub rows : RowsKept o g s t.rows m
  pub jobs : JobsKept s t.jobs e m
  pub own : (k : Job) → job_at t.jobs e ≡ Some k → OwnJob o g s t m k
  pub could : (x : Token) → x.row ≢ m → could_of o g x ≡ could_of o h x
  pub released : (x : Token) → Contains t.released x → Contains s.released x ⊎ (row_at t.rows x.row ≡ None)
  pub once : EachOnce t.live

module _ (o : Opening) (h g : List Entry) (s t : StateData) (e m : ℕ) (d : Drawn s) (js : JobsStand s)
    (c : CloudFits o h s)
    (k : Kept o h g s t e m) where
  -- a row is an old one, or was written
  was : (n : ℕ) (q : Row) → row_at t.rows n ≡ Some q → ((n ≢ m) × (row_at s.rows n ≡ Some q)) ⊎ IsWritten o g s m n q
  was n q at = elim (same_or_not n m) [
    | inl is ↦ inr (k.rows.written n q at (inl is))
    | inr ne ↦ elim (below_or_not n s.next.row) [
      | inl lt ↦ inl (ne, sym (k.rows.else_ n ne lt) ∙ at)
      | inr le ↦ inr (k.rows.written n q at (inr le))
    ]
  ]

  old_row : (f : ℕ) (j : Job) → job_at s.jobs f ≡ Some j → j.row ≢ m → row_at t.rows j.row ≡ row_at s.rows j.row
  old_row f j its ne = k.rows.else_ j.row ne (d.jobs f j its)

  -- an engine with a job was live before
  lived : (f : ℕ) (j : Job) → job_at s.jobs f ≡ Some j → Contains t.live f → Contains s.live f
  lived f j its alive = elim (k.live f alive) [
    | inl old ↦ old
    | inr le ↦ let lt = d.holders f j its in
        absurd (omega (arith, lt, le))
  ]

  -- its own row is no other job's
  strange : (f : ℕ) (i j : Job) → job_at t.jobs f ≡ Some i → f ≢ e → job_at t.jobs e ≡ Some j → i.row ≡ j.row → ⊥
  strange f i j its ne own same =
      let (was_i, off) = k.jobs.else_ f i its ne in elim (k.own j own).place [
        | inl at ↦ off (same ∙ at)
        | inr le ↦ let lt = d.jobs f i was_i in omega (arith, lt, le, same)
      ]

  apart : (f f' : ℕ) (i j : Job) → job_at t.jobs f ≡ Some i → job_at t.jobs f' ≡ Some j → i.row ≡ j.row → f ≡ f'
  apart f f' i j its its' same = elim (same_or_not f e) [
    | inl is ↦ elim (same_or_not f' e) [
      | inl is' ↦ is ∙ sym is'
      | inr ne' ↦ absurd (strange f' j i its' ne' (subst (λ (n : ℕ). job_at t.jobs n ≡ Some i) is its) (sym same))
    ]
    | inr ne ↦ elim (same_or_not f' e) [
      | inl is' ↦ absurd (strange f i j its ne (subst (λ (n : ℕ). job_at t.jobs n ≡ Some j) is' its') same)
      | inr ne' ↦ js.apart f f' i j (k.jobs.else_ f i its ne).0 (k.jobs.else_ f' j its' ne').0 same
    ]
  ]

  called : (f : ℕ) (j : Job) → Contains t.live f → job_at t.jobs f ≡ Some j → IsUnderWay j.stage → IsCalled t j
  called f j lives its way = elim (same_or_not f e) [
    | inl is ↦ (k.own j (subst (λ (n : ℕ). job_at t.jobs n ≡ Some j) is its)).called way
    | inr ne ↦ (let (old, off) = k.jobs.else_ f j its ne in
        let c' = js.called f j (lived f j old lives) old way in
        record { row = c'.row; found = old_row f j old off ∙ c'.found; status = c'.status; act = c'.act })
  ]

  token_row : (n : ℕ) (q : Row) → row_at s.rows n ≡ Some q → n ≢ m → (token_of q).row ≢ m
  token_row n q at ne is = ne (sym (row-key s.rows n q at) ∙ is)

  stands : JobsStand t
  stands = record {
    apart = apart;
    called = called;
    rows = λ n q at. elim (was n q at) [ inl old ↦ js.rows n q old.1 | inr new ↦ new.stands ];
  }

  lives : (n : ℕ) (q : Row) (x : TokenState) → row_at t.rows n ≡ Some q → MustLive q
      → Contains (could_of o g (token_of q)) x → IsSome x
  lives n q x at must among = elim (was n q at) [
    | inl old ↦ c.lives n q x old.1 must
        (subst (λ (l : List TokenState). Contains l x) (k.could (token_of q) (token_row n q old.1 old.0)) among)
    | inr new ↦ new.lives must x among
  ]

  polled : (f : ℕ) (j : Job) (r : Row) (x : TokenState) → Contains t.live f → job_at t.jobs f ≡ Some j
      → j.stage ≡ Polling
      → row_at t.rows j.row ≡ Some r → Contains (could_of o g (token_of r)) x → MayPoll r.act x
  polled f j r x alive its stage at among = elim (same_or_not f e) [
    | inl is ↦ (k.own j (subst (λ (n : ℕ). job_at t.jobs n ≡ Some j) is its)).polled stage r x at among
    | inr ne ↦ (let (old, off) = k.jobs.else_ f j its ne in
        let found : row_at s.rows j.row ≡ Some r = sym (old_row f j old off) ∙ at in
        c.polled f j r x (lived f j old alive) old stage found
        (subst (λ (l : List TokenState). Contains l x) (k.could (token_of r) (token_row j.row r found off)) among))
  ]

  rowless : (x : Token) (q : Row) → Contains t.released x → row_at t.rows x.row ≡ Some q → token_of q ≢ x
  rowless x q given at same = elim (k.released x given) [
    | inr none ↦ cc
    | inl old ↦ elim (was x.row q at) [
      | inl row ↦ c.rowless x q old row.1 same
      | inr new ↦ elim (same_or_not x.row m) [
        | inl is ↦ (let (r, found, token) = new.token is (d.released x old) in
            c.rowless x r old (subst (λ (n : ℕ). row_at s.rows n ≡ Some r) (sym is) found) (sym token ∙ same))
        | inr ne ↦ elim (below_or_not x.row s.next.row) [
          | inl lt ↦ c.rowless x q old (sym (k.rows.else_ x.row ne lt) ∙ at) same
          | inr le ↦ let lt = d.released x old in absurd (omega (arith, lt, le))
        ]
      ]
    ]
  ]

  fits : CloudFits o g t
  fits = record { lives = lives; polled = polled; rowless = rowless }

  pub kept_jobs : JobsStand t
  kept_jobs = stands

  pub kept_cloud : CloudFits o g t
  kept_cloud = fits
