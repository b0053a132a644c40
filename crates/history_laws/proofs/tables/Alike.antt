-- Rows before and after a write: each row found later was found before, in some relation.
use Rattle.std.proofs.Common.{◌≡◌, ◌≢◌, inl, inr, ℕ, List, None, Some, sym, ◌∙◌, subst}
use Rattle.row_table.specs.Rows.{cut_row, put_row, row_at}
use Rattle.row_table.specs.declared.row.Row.{Row}
use Rattle.mail_table.specs.Mails.{cut_job, job_at, put_job}
use Rattle.mail_table.specs.declared.mail.Job.{Job}
use Rattle.history_laws.proofs.tables.Rows.{job_else, job_here, job_kept, row_cut, row_else, row_here, row_put, same_or_not}
use Rattle.history_laws.proofs.tables.Rows.{same_some}

-- each row found later was found before, in this relation to it
abbrev pub Were : (Row → Row → Type 0) → List Row → List Row → Type 0
Were L before after = (n : ℕ) (a : Row) → row_at after n ≡ Some a → (o : Row) × (row_at before n ≡ Some o) × L o a

pub Were-put : (L : Row → Row → Type 0) → ((x : Row) → L x x) → (r q : Row) (rows : List Row)
    → row_at rows q.no ≡ Some r → L r q
    → Were L rows (put_row q rows)
Were-put L same r q rows was like n a h = elim (row_put q rows h) [
  | inl new ↦ (r, rw (← new.0) was, rw (← new.1) like)
  | inr old ↦ (a, old.1, same a)
]

pub Were-cut : (L : Row → Row → Type 0) → ((x : Row) → L x x) → (c : ℕ) (rows : List Row) → Were L rows (cut_row c rows)
Were-cut L same c rows n a h = (a, (row_cut c rows h).1, same a)

-- the same rows stand before and after, each in this relation
pub record Alike (L : Row → Row → Type 0) (before after : List Row) : Type 0 where
  pub were : Were L before after
  pub are : (n : ℕ) (o : Row) → row_at before n ≡ Some o → (a : Row) × (row_at after n ≡ Some a) × L o a
  pub gone : (n : ℕ) → row_at before n ≡ None → row_at after n ≡ None

pub Alike-same : (L : Row → Row → Type 0) → ((x : Row) → L x x) → (rows : List Row) → Alike L rows rows
Alike-same L same rows = record { were = λ n a h. (a, h, same a); are = λ n o h. (o, h, same o); gone = λ n h. h }

pub Alike-put : (L : Row → Row → Type 0) → ((x : Row) → L x x) → (r q : Row) (rows : List Row)
    → row_at rows q.no ≡ Some r → L r q
    → Alike L rows (put_row q rows)
Alike-put L same r q rows was like = record { were = Were-put L same r q rows was like; are = are; gone = gone } where
  are : (n : ℕ) (o : Row) → row_at rows n ≡ Some o → (a : Row) × (row_at (put_row q rows) n ≡ Some a) × L o a
  are n o h = elim (same_or_not q.no n) [
    | inl is ↦ let at_q : row_at rows q.no ≡ Some o = subst (λ (k : ℕ). row_at rows k ≡ Some o) (sym is) h in (
      q,
      subst (λ (k : ℕ). row_at (put_row q rows) k ≡ Some q) is (row_here q rows),
      subst (λ (x : Row). L x q) (same_some r o was at_q) like,
    )
    | inr ne ↦ (o, row_else q rows n ne ∙ h, same o)
  ]

  gone : (n : ℕ) → row_at rows n ≡ None → row_at (put_row q rows) n ≡ None
  gone n h = elim (same_or_not q.no n) [
    | inl is ↦ let none : row_at rows q.no ≡ None = subst (λ (k : ℕ). row_at rows k ≡ None) (sym is) h in cc
    | inr ne ↦ row_else q rows n ne ∙ h
  ]

pub row_twice : (x y : Row) (rows : List Row) → y.no ≡ x.no → (n : ℕ)
    → row_at (put_row x (put_row y rows)) n ≡ row_at (put_row x rows) n
row_twice x y rows same n = elim (same_or_not x.no n) [
  | inl e ↦ rw (← e) (row_here x (put_row y rows) ∙ sym (row_here x rows))
  | inr ne ↦ row_else x (put_row y rows) n ne
      ∙ (row_else y rows n (λ e. ne (sym same ∙ e)) ∙ sym (row_else x rows n ne))
]

pub row_swapped : (x y : Row) (rows : List Row) → y.no ≢ x.no → (n : ℕ)
    → row_at (put_row y (put_row x rows)) n ≡ row_at (put_row x (put_row y rows)) n
row_swapped x y rows apart n = elim (same_or_not x.no n) [
  | inl e ↦ row_else y (put_row x rows) n (λ k. apart (k ∙ sym e))
      ∙ rw (← e) (row_here x rows ∙ sym (row_here x (put_row y rows)))
  | inr ne ↦ elim (same_or_not y.no n) [
    | inl k ↦ sym (row_else x (put_row y rows) n ne ∙ rw (← k) (row_here y rows ∙ sym (row_here y (put_row x rows))))
    | inr ny ↦ row_else y (put_row x rows) n ny
        ∙ (row_else x rows n ne ∙ sym (row_else x (put_row y rows) n ne ∙ row_else y rows n ny))
  ]
]

pub job_again : (j : Job) (jobs : List Job) (e : ℕ)
    → job_at (put_job j (cut_job j.engine jobs)) e ≡ job_at (put_job j jobs) e
job_again j jobs e = elim (same_or_not j.engine e) [
  | inl is ↦ rw (← is) (job_here j (cut_job j.engine jobs) ∙ sym (job_here j jobs))
  | inr ne ↦ job_else j (cut_job j.engine jobs) e ne ∙ (job_kept j.engine jobs e ne ∙ sym (job_else j jobs e ne))
]
