-- Which jobs still poll behind a write of a job, and the rows that they have.
use Rattle.std.proofs.Common.{ap, inl, inr, subst, sym, ◌∙◌}
use Rattle.std.specs.Prelude.{Contains, List, Some, ℕ, ◌<◌, ◌≡◌, ◌≢◌, ◌≤◌}
use Rattle.heat_plan.specs.declared.token.Token.{Token}
use Rattle.row_table.specs.Rows.{cut_row, put_row, row_at}
use Rattle.row_table.specs.declared.row.Row.{Row}
use Rattle.mail_table.specs.Mails.{cut_job, job_at, put_job}
use Rattle.mail_table.specs.declared.mail.Job.{Job}
use Rattle.mail_table.specs.declared.mail.Stage.TheVariants.{Polling}
use Rattle.step_relation.specs.State.{StateData}
use Rattle.step_relation.specs.declared.Entry.{Entry}
use Rattle.step_relation.specs.Rows.{locked}
use Rattle.step_relation.specs.Takes.{HasNoHolder}
use Rattle.step_relation.specs.Opening.{Opening}
use Rattle.step_relation.specs.Linked.{Locked}
use Rattle.step_relation.specs.Numbered.{Numbered}
use Rattle.history_laws.proofs.tables.Rows.{job-key, job_cut, job_put, row_else, row_kept}
use Rattle.history_laws.proofs.agrees.Goes.{Goes, was_given, was_polling}
use Rattle.history_laws.proofs.agrees.Going.{RowsGo}

-- a step with its own row at n: the rows of others stay, and so do the jobs that poll
pub goes_with : (o : Opening) (g : List Entry) (s t : StateData) (n : ℕ) → Numbered s
    → RowsGo o g s.next.row s.rows t.rows
    → ((m : ℕ) → m ≢ n → m < s.next.row → row_at t.rows m ≡ row_at s.rows m)
    → ((f : ℕ) (k : Job) → job_at t.jobs f ≡ Some k → k.stage ≡ Polling → (job_at s.jobs f ≡ Some k) × (k.row ≢ n))
    → t.released ≡ s.released → s.next.row ≤ t.next.row → Goes o g s t
goes_with o g s t n numbered rows else_ jobs tokens up = record {
  rows = rows;
  jobs = λ f k at stage. let (was, ne) = jobs f k at stage in
      was_polling was (λ q found. sym (else_ k.row ne (numbered.jobs f k was).its_row) ∙ found);
  up = λ x c. subst (λ (ts : List Token). Contains ts x) (sym tokens) c;
  given_up = λ x c. was_given (subst (λ (ts : List Token). Contains ts x) tokens c);
  next = up;
}

module _ (s : StateData) (locked : Locked s.rows s.jobs) (e : ℕ) (j : Job) (its : job_at s.jobs e ≡ Some j) where
  pub others_apart : (f : ℕ) (k : Job) → job_at s.jobs f ≡ Some k → e ≢ f → k.row ≢ j.row
  others_apart f k at ne same = ne (sym (locked.apart f e k j at its same))

  -- the job goes on, but doesn't poll
  pub polls_restaged : (new : Job) → new.engine ≡ j.engine → new.stage ≢ Polling → (f : ℕ) (k : Job)
      → job_at (put_job new s.jobs) f ≡ Some k → k.stage ≡ Polling → (job_at s.jobs f ≡ Some k) × (k.row ≢ j.row)
  polls_restaged new engine_is stage_is f k at stage = elim (job_put new s.jobs at) [
    | inl is ↦ absurd (stage_is (ap (λ (x : Job). x.stage) is.1 ∙ stage))
    | inr other ↦ (other.1, others_apart f k other.1 (λ e_is. other.0 (engine_is ∙ (job-key s.jobs e j its ∙ e_is))))
  ]

  -- the job ends
  pub polls_ended : (f : ℕ) (k : Job) → job_at (cut_job e s.jobs) f ≡ Some k → k.stage ≡ Polling
      → (job_at s.jobs f ≡ Some k) × (k.row ≢ j.row)
  polls_ended f k at stage = let other = job_cut e s.jobs at in (other.1, others_apart f k other.1 other.0)

-- a job begins at a row that no job has
pub polls_taken : (s : StateData) (new : Job) (n : ℕ) → HasNoHolder s.jobs n → new.stage ≢ Polling → (f : ℕ) (k : Job)
    → job_at (put_job new s.jobs) f ≡ Some k → k.stage ≡ Polling → (job_at s.jobs f ≡ Some k) × (k.row ≢ n)
polls_taken s new n free stage_is f k at stage = elim (job_put new s.jobs at) [
  | inl is ↦ absurd (stage_is (ap (λ (x : Job). x.stage) is.1 ∙ stage))
  | inr other ↦ (other.1, free f k other.1)
]

-- or in the place of one that ends
pub polls_stolen : (s : StateData) → Locked s.rows s.jobs → (new j : Job) (e n : ℕ) → job_at s.jobs e ≡ Some j
    → j.row ≡ n → new.stage ≢ Polling
    → (f : ℕ) (k : Job) → job_at (put_job new (cut_job e s.jobs)) f ≡ Some k → k.stage ≡ Polling
    → (job_at s.jobs f ≡ Some k) × (k.row ≢ n)
polls_stolen s locked new j e n its on stage_is f k at stage = elim (job_put new (cut_job e s.jobs) at) [
  | inl is ↦ absurd (stage_is (ap (λ (x : Job). x.stage) is.1 ∙ stage))
  | inr other ↦ let was = job_cut e s.jobs other.1 in
      (was.1, λ same. others_apart s locked e j its f k was.1 was.0 (same ∙ sym on))
]

pub put_else : (q : Row) (rows : List Row) (n next : ℕ) → q.no ≡ n → (m : ℕ) → m ≢ n → m < next
    → row_at (put_row q rows) m ≡ row_at rows m
put_else q rows n next is m ne lt = row_else q rows m (λ e. ne (sym e ∙ is))

pub cut_else : (n next : ℕ) (rows : List Row) (m : ℕ) → m ≢ n → m < next → row_at (cut_row n rows) m ≡ row_at rows m
cut_else n next rows m ne lt = row_kept n rows m (λ e. ne (sym e))
