-- What holds of each record of a written-out table holds of whatever is found there.
use Rattle.std.proofs.Common.{Bool, List, Some, [], false, subst, true, ℕ, ◌∷◌, ◌≡◌}
use Rattle.std.specs.Prelude.{cond, nat_eq}
use Rattle.std.specs.List.{AllByRecursion}
use Rattle.std.specs.Str.{bytes_eq}
use Rattle.heat_plan.specs.Tables.{at}
use Rattle.row_table.specs.Rows.{row_at, row_key}
use Rattle.row_table.specs.declared.row.Row.{Row}
use Rattle.mail_table.specs.Mails.{job_at, job_key, letter_at, letter_key}
use Rattle.mail_table.specs.declared.mail.Job.{Job}
use Rattle.mail_table.specs.declared.mail.Letter.{Letter}
use Rattle.core_state.specs.State.{stack_at, stack_key}
use Rattle.core_state.specs.declared.stack.Stack.{Stack}

module _ {K A : Type 0} (same : K → K → Bool) (key : A → K) (P : A → Type 0) where
  pub found : (xs : List A) → AllByRecursion P xs → (k : K) (x : A) → at same key xs k ≡ Some x → P x
  unfolding at
  found [] all k x is = cc
  found (y ∷ ys) all k x is = by (same (key y) k) (found ys all.1 k x) is where
    by : (b : Bool) → (at same key ys k ≡ Some x → P x) → cond b (Some y) (at same key ys k) ≡ Some x → P x
    by true rest one = let it : y ≡ x = cc in subst P it all.0
    by false rest more = rest more

pub each_row : (P : Row → Type 0) (rows : List Row) → AllByRecursion P rows → (n : ℕ) (r : Row) → row_at rows n ≡ Some r
    → P r
each_row P rows all n r is = found nat_eq row_key P rows all n r is

pub each_job : (P : Job → Type 0) (jobs : List Job) → AllByRecursion P jobs → (e : ℕ) (j : Job) → job_at jobs e ≡ Some j
    → P j
each_job P jobs all e j is = found nat_eq job_key P jobs all e j is

pub each_letter : (P : Letter → Type 0) (letters : List Letter) → AllByRecursion P letters → (n : ℕ) (l : Letter)
    → letter_at letters n ≡ Some l → P l
each_letter P letters all n l is = found nat_eq letter_key P letters all n l is

pub each_stack : (P : Stack → Type 0) (stacks : List Stack) → AllByRecursion P stacks → (name : List ℕ) (st : Stack)
    → stack_at stacks name ≡ Some st → P st
each_stack P stacks all name st is = found bytes_eq stack_key P stacks all name st is
