-- How jobs and rows are written, as the counts see it.
use Rattle.std.proofs.Common.{◌≡◌, ◌⊎◌, inl, inr, ℕ, ◌+◌, ◌*◌, List, Option, Some, None, refl, sym, ap, subst, ◌∙◌}
use Rattle.std.proofs.Common.{arith}
use Rattle.std.specs.Prelude.{Contains}
use Rattle.heat_plan.specs.declared.phase.Status.TheVariants.{InProgress}
use Rattle.heat_plan.specs.declared.token.Token.{Token}
use Rattle.row_table.specs.Chains.{IsCurrent}
use Rattle.row_table.specs.Rows.{cut_row, put_row, row_at}
use Rattle.row_table.specs.declared.row.Row.{Row}
use Rattle.mail_table.specs.Mails.{cut_job, job_at, put_job}
use Rattle.mail_table.specs.declared.mail.Job.{Job}
use Rattle.core_state.specs.State.{StateData, stack_at}
use Rattle.core_state.specs.declared.stack.Stack.{Stack}
use Rattle.step_relation.specs.Orders.{past_of}
use Rattle.step_relation.specs.Rows.{token_of}
use Rattle.history_laws.proofs.tables.Rows.{job_cut, job_gone, job_here, job_put, row_cut, row_put, same_some}
use Rattle.next_laws.proofs.Decide.{flag_or_not}
use Rattle.next_laws.proofs.Waiting.{progress_or_not}
use Rattle.bound_laws.specs.Bound.{IsWork}
use Rattle.bound_laws.specs.Rolls.{MayRoll}
use Rattle.bound_laws.proofs.Jobs.{JobsWere, RowsWere}
use Rattle.bound_laws.proofs.Own.{job_sum}
use Rattle.bound_laws.proofs.Rows.{IsFar, RowsNear, near_cut, near_put, near_same}

-- whether a stack's rollback may come
pub may_or_not : (s : StateData) (name : List ℕ)
    → ((st : Stack) × MayRoll s name st) ⊎ ((st : Stack) → ¬ MayRoll s name st)
may_or_not s name = by (stack_at s.stacks name) refl where
  by : (o : Option Stack) → stack_at s.stacks name ≡ o
      → ((st : Stack) × MayRoll s name st) ⊎ ((st : Stack) → ¬ MayRoll s name st)
  by None none = inr (λ st k. let at = k.in_table in cc)
  by (Some st) at = elim (progress_or_not st.status) [
    | inr not ↦
        inr (λ x k. not (subst (λ (y : Stack). y.status ≡ InProgress) (same_some x st k.in_table at) k.unmarked))
    | inl under ↦ elim (flag_or_not (past_of s name).rollback) [
      | inr off ↦ inr (λ x k. off k.rollback)
      | inl on ↦ inl (st, record { in_table = at; unmarked = under; rollback = on })
    ]
  ]

-- jobs
module _ (s t : StateData) (lives : t.live ≡ s.live) where
  live_was : (f : ℕ) → Contains t.live f → Contains s.live f
  live_was f c = subst (λ (l : List ℕ). Contains l f) lives c

  live_is : (f : ℕ) → Contains s.live f → Contains t.live f
  live_is f c = subst (λ (l : List ℕ). Contains l f) (sym lives) c

  pub jobs_same : (e : ℕ) → t.jobs ≡ s.jobs → JobsWere s t e
  jobs_same e is = record {
    else_ = λ f k at ne. subst (λ (l : List Job). job_at l f ≡ Some k) is at;
    live = live_was;
    alive = live_is;
  }

  pub jobs_put : (e : ℕ) (j : Job) → j.engine ≡ e → t.jobs ≡ put_job j s.jobs → JobsWere s t e
  jobs_put e j own is = record {
    else_ = λ f k at ne. elim (job_put j s.jobs (subst (λ (l : List Job). job_at l f ≡ Some k) is at)) [
      | inl new ↦ absurd (ne (sym new.0 ∙ own))
      | inr old ↦ old.1
    ];
    live = live_was;
    alive = live_is;
  }

  pub jobs_stolen : (e g : ℕ) (j : Job) → j.engine ≡ e → t.jobs ≡ put_job j (cut_job g s.jobs) → JobsWere s t e
  jobs_stolen e g j own is = record {
    else_ = λ f k at ne. elim (job_put j (cut_job g s.jobs) (subst (λ (l : List Job). job_at l f ≡ Some k) is at)) [
      | inl new ↦ absurd (ne (sym new.0 ∙ own))
      | inr old ↦ (job_cut g s.jobs old.1).1
    ];
    live = live_was;
    alive = live_is;
  }

  pub jobs_cut : (e : ℕ) → t.jobs ≡ cut_job e s.jobs → JobsWere s t e
  jobs_cut e is = record {
    else_ = λ f k at ne. (job_cut e s.jobs (subst (λ (l : List Job). job_at l f ≡ Some k) is at)).1;
    live = live_was;
    alive = live_is;
  }

pub own_is : (t : StateData) (jobs : List Job) (e : ℕ) (j : Job) → j.engine ≡ e → t.jobs ≡ put_job j jobs → (q : Job)
    → job_at t.jobs e ≡ Some q → q ≡ j
own_is t jobs e j own is q at = same_some q j (subst (λ (l : List Job). job_at l e ≡ Some q) is at)
    (subst (λ (f : ℕ). job_at (put_job j jobs) f ≡ Some j) own (job_here j jobs))

pub own_gone : (s t : StateData) (e : ℕ) → t.jobs ≡ cut_job e s.jobs → (q : Job) → ¬ job_at t.jobs e ≡ Some q
own_gone s t e is q at = let none = job_gone e s.jobs in
    let some = subst (λ (l : List Job). job_at l e ≡ Some q) is at in cc

-- rows: each later one was there with its token, and a current one that is far was so
pub record RowForm (s t : StateData) : Type 0 where
  pub full : (i : ℕ) (r : Row) → row_at t.rows i ≡ Some r → (o : Row) × (row_at s.rows i ≡ Some o)
      × (token_of r ≡ token_of o)
  pub near : RowsNear s t

pub form_were : (s t : StateData) → RowForm s t → RowsWere s t
form_were s t f = record { were = λ n r at lt. f.full n r at }

pub form_same : (s t : StateData) → t.rows ≡ s.rows → RowForm s t
form_same s t is = record {
  full = λ i r at. (r, subst (λ (l : List Row). row_at l i ≡ Some r) is at, refl);
  near = near_same s t is;
}

pub form_put : (s t : StateData) (r q : Row) → row_at s.rows q.no ≡ Some r → token_of q ≡ token_of r
    → t.rows ≡ put_row q s.rows → (IsCurrent q → IsCurrent r)
    → ((st : Stack) → MayRoll s q.stack st → IsFar st.trav q → IsFar st.trav r) → RowForm s t
form_put s t r q at token is current far = record {
  full = λ i x found. elim (row_put q s.rows (subst (λ (l : List Row). row_at l i ≡ Some x) is found)) [
    | inl new ↦ (r, subst (λ (k : ℕ). row_at s.rows k ≡ Some r) new.0 at, ap token_of (sym new.1) ∙ token)
    | inr old ↦ (x, old.1, refl)
  ];
  near = near_put s t r q at token is current far;
}

pub form_cut : (s t : StateData) (c : ℕ) → t.rows ≡ cut_row c s.rows → RowForm s t
form_cut s t c is = record {
  full = λ i x found. (x, (row_cut c s.rows (subst (λ (l : List Row). row_at l i ≡ Some x) is found)).1, refl);
  near = near_cut s t c is;
}

-- the whole
abbrev pub all_work : (left : Token → ℕ) (s : StateData) (n : ℕ) → IsWork left s n → ℕ
all_work left s n w = 69 * w.letters + 69 * w.nodes + 70 * w.stopped + job_sum left s n w + 69 * w.late
    + 69 * (w.rolls_are.letters + w.rolls_are.nodes + w.rolls_are.jobs + w.rolls_are.items + w.rolls_are.rows
    + w.rolls_are.far)

pub is_all : (left : Token → ℕ) (s : StateData) (n : ℕ) (w : IsWork left s n) → n ≡ all_work left s n w
is_all left s n w = let x = w.sum in let y = w.rolls_are.sum in omega (arith, x, y)
