-- A job that goes on, by its stage, and a call that alone is told.
use Rattle.std.proofs.Common.{◌≡◌, ◌⊎◌, ◌<◌, ◌≤◌, ℕ, ◌+◌, Some, refl, arith}
use Rattle.std.specs.Prelude.{Contains}
use Rattle.heat_plan.specs.declared.token.Token.{Token}
use Rattle.row_table.specs.Rows.{row_at}
use Rattle.row_table.specs.declared.row.Row.{Row}
use Rattle.mail_table.specs.Mails.{job_at, put_job}
use Rattle.mail_table.specs.declared.mail.Job.{Job}
use Rattle.mail_table.specs.declared.mail.Stage.TheVariants.{Asking, Ending, Polling, Taken}
use Rattle.core_state.specs.State.{StateData}
use Rattle.step_relation.specs.Given.{Given}
use Rattle.step_relation.specs.Rows.{token_of}
use Rattle.step_relation.specs.Sound.{Standing}
use Rattle.history_laws.proofs.tables.Rows.{same_some}
use Rattle.bound_laws.specs.Bound.{IsWork}
use Rattle.bound_laws.proofs.Falls.{PollsFall}
use Rattle.bound_laws.proofs.Forms.{RowForm, form_same, form_were, is_all, jobs_put, jobs_same, own_is}
use Rattle.bound_laws.proofs.Jobs.{JobsWere}
use Rattle.bound_laws.proofs.Lowers.{goes_on}
use Rattle.bound_laws.proofs.Own.{asking_goes_on, goes_late, goes_left, goes_roll, job_sum, other_polls}
use Rattle.bound_laws.proofs.Own.{polling_goes_on, polling_waits, taken_goes_on}
use Rattle.bound_laws.proofs.Rows.{far_falls, rows_fall}
use Rattle.bound_laws.proofs.Still.{Still, eases_of, letters_fall, nodes_fall, roll_items_fall, roll_letters_fall}
use Rattle.bound_laws.proofs.Still.{roll_nodes_fall, still_same}

module _ (before after : Token → ℕ) (s t : StateData) (e : ℕ) (given : Given) (falls : PollsFall before after s e given)
    (hs : Standing s) (ht : Standing t)
    (n m : ℕ) (a : IsWork before s n) (b : IsWork after t m) (still : Still s t) (form : RowForm s t) (j k : Job)
    (its : job_at s.jobs e ≡ Some j)
    (live : Contains s.live e) (own : k.engine ≡ e) (letter : k.letter ≡ j.letter) (lives : t.live ≡ s.live)
    (jobs : t.jobs ≡ put_job k s.jobs)
    (letters : t.letters ≡ s.letters) where
  were : JobsWere s t e
  were = jobs_put s t lives e k own jobs

  by_sum : job_sum after t m b + 1 ≤ job_sum before s n a → m < n
  by_sum = goes_on before after s t e given falls hs ht n m a b still form j k its live own letter lives jobs letters

  pub on_taken : j.stage ≡ Taken → (k.stage ≡ Asking) ⊎ (k.stage ≡ Ending) → m < n
  on_taken at to = by_sum (taken_goes_on before after s t hs (eases_of s t still) e were (form_were s t form)
      (other_polls before after s e given hs falls)
      n m a b j its live k (own_is t s.jobs e k own jobs) letter at to)

  pub on_asking : j.stage ≡ Asking → k.stage ≡ Polling → m < n
  on_asking at to = by_sum (asking_goes_on before after s t hs (eases_of s t still) e were (form_were s t form)
      (other_polls before after s e given hs falls)
      n m a b j its live k (own_is t s.jobs e k own jobs) letter at to falls.few)

  pub on_polling : j.stage ≡ Polling → k.stage ≡ Ending → m < n
  on_polling at to = by_sum (polling_goes_on before after s t hs (eases_of s t still) e were (form_were s t form)
      (other_polls before after s e given hs falls)
      n m a b j its live k (own_is t s.jobs e k own jobs) letter at to)

-- a poll that is to be repeated
pub waits : (before after : Token → ℕ) (s : StateData) (e : ℕ) (given : Given) → PollsFall before after s e given
    → Standing s → (n m : ℕ)
    → IsWork before s n → IsWork after s m → (j : Job) → job_at s.jobs e ≡ Some j → Contains s.live e
    → j.stage ≡ Polling → (r : Row) → row_at s.rows j.row ≡ Some r
    → after (token_of r) < before (token_of r) → m < n
waits before after s e given falls hs n m a b j its live at r found less =
    let still = still_same s s refl refl refl in
    let were = jobs_same s s refl e refl in
    let form = form_same s s refl in
    let others = other_polls before after s e given hs falls in
    let is : (q : Job) → job_at s.jobs e ≡ Some q → q ≡ j = λ q x. same_some q j x its in
    let sum = polling_waits before after s s hs (eases_of s s still) e were
    (form_were s s form) others n m a b j its live j is refl at refl r found less in
    let l1 = letters_fall before after s s still n m a b (λ i l x. x) in
    let l2 = roll_letters_fall before after s s still n m a b (λ i l x. x) in
    let x1 = goes_left before after s s hs (eases_of s s still) e were
    (form_were s s form) others n m a b j its live j is refl in
    let x2 = goes_late before after s s hs (eases_of s s still) e were
    (form_were s s form) others n m a b j its live j is refl still in
    let x3 = goes_roll before after s s hs (eases_of s s still) e were
    (form_were s s form) others n m a b j its live j is refl in
    let r1 = nodes_fall before after s s still n m a b in
    let r2 = roll_nodes_fall before after s s still n m a b in
    let r3 = roll_items_fall before after s s still n m a b in
    let r4 = rows_fall before after s s (eases_of s s still) n m a b form.full in
    let r5 = far_falls before after s s (eases_of s s still) hs hs form.near n m a b in
    let x = is_all before s n a in let y = is_all after s m b in
    omega (arith, x, y, sum, l1, l2, x1, x2, x3, r1, r2, r3, r4, r5)
