-- What is found in a table has the key, and is among its records.
use Rattle.std.proofs.Common.{◌≡◌, ◌≢◌, ◌⊎◌, inl, inr, ℕ, zero, suc, Bool, true, false, List, [], ◌∷◌, Some, refl, sym}
use Rattle.std.proofs.Common.{subst, arith}
use Rattle.std.specs.Prelude.{Contains, Decides, nat_eq}
use Rattle.std.proofs.lemmas.Bool.Decides.{Decides-eqb}
use Rattle.heat_plan.specs.Tables.{at}
use Rattle.mail_table.specs.Mails.{job_at, job_key}
use Rattle.mail_table.specs.declared.mail.Job.{Job}
use Rattle.row_table.specs.Rows.{row_at, row_key}
use Rattle.row_table.specs.declared.row.Row.{Row}

pub Contains-head : {A : Type 0} (y : A) (ys : List A) → Contains (y ∷ ys) y
Contains-head y ys = (0, omega arith, refl)

pub Contains-tail : {A : Type 0} (y : A) (ys : List A) (x : A) → Contains ys x → Contains (y ∷ ys) x
Contains-tail y ys x (k, lt, e) = (suc k, omega (arith, lt), e)

pub Contains-cons_cases : {A : Type 0} (y : A) (ys : List A) (x : A) → Contains (y ∷ ys) x → (y ≡ x) ⊎ Contains ys x
Contains-cons_cases y ys x (zero, lt, e) = inl e
Contains-cons_cases y ys x (suc k, lt, e) = inr (k, omega (arith, lt), e)

module _ {K A : Type 0} (same : K → K → Bool) (decides : (x y : K) → Decides (same x y) (x ≡ y)) (key : A → K) where
  cases : (x y : K) → ((same x y ≡ true) × (x ≡ y)) ⊎ ((same x y ≡ false) × (x ≢ y))
  cases x y = by (same x y) refl where
    by : (b : Bool) → same x y ≡ b → ((same x y ≡ true) × (x ≡ y)) ⊎ ((same x y ≡ false) × (x ≢ y))
    by true e = inl (e, (decides x y).0 e)
    by false e = inr (e, λ is. let t : same x y ≡ true = (decides x y).1 is in cc)

  pub at-key : (xs : List A) (k : K) (x : A) → at same key xs k ≡ Some x → key x ≡ k
  unfolding at
  at-key [] k x h = cc
  at-key (y ∷ ys) k x h = elim (cases (key y) k) [
    | inl is ↦ let e : Some y ≡ Some x = rw is.0 at h in let f : y ≡ x = cc in rw (← f) is.1
    | inr not ↦ at-key ys k x (rw not.0 at h)
  ]

  pub at-self : (xs : List A) (k : K) (x : A) → at same key xs k ≡ Some x → at same key xs (key x) ≡ Some x
  at-self xs k x h = subst (λ (n : K). at same key xs n ≡ Some x) (sym (at-key xs k x h)) h

  pub at-among : (xs : List A) (k : K) (x : A) → at same key xs k ≡ Some x → Contains xs x
  unfolding at
  at-among [] k x h = cc
  at-among (y ∷ ys) k x h = elim (cases (key y) k) [
    | inl is ↦ let e : Some y ≡ Some x = rw is.0 at h in let f : y ≡ x = cc in
        subst (Contains (y ∷ ys)) f (Contains-head y ys)
    | inr not ↦ Contains-tail y ys x (at-among ys k x (rw not.0 at h))
  ]

pub row-key : (rows : List Row) (n : ℕ) (r : Row) → row_at rows n ≡ Some r → r.no ≡ n
row-key rows n r h = at-key nat_eq Decides-eqb row_key rows n r h

pub row-self : (rows : List Row) (n : ℕ) (r : Row) → row_at rows n ≡ Some r → row_at rows r.no ≡ Some r
row-self rows n r h = at-self nat_eq Decides-eqb row_key rows n r h

pub row-among : (rows : List Row) (n : ℕ) (r : Row) → row_at rows n ≡ Some r → Contains rows r
row-among rows n r h = at-among nat_eq Decides-eqb row_key rows n r h

pub job-key : (jobs : List Job) (e : ℕ) (j : Job) → job_at jobs e ≡ Some j → j.engine ≡ e
job-key jobs e j h = at-key nat_eq Decides-eqb job_key jobs e j h

pub job-self : (jobs : List Job) (e : ℕ) (j : Job) → job_at jobs e ≡ Some j → job_at jobs j.engine ≡ Some j
job-self jobs e j h = at-self nat_eq Decides-eqb job_key jobs e j h

pub job-among : (jobs : List Job) (e : ℕ) (j : Job) → job_at jobs e ≡ Some j → Contains jobs j
job-among jobs e j h = at-among nat_eq Decides-eqb job_key jobs e j h
