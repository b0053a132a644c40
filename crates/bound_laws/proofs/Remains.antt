-- Where a letter waits or there is a job, some work is left.
use Rattle.std.proofs.Common.{◌≡◌, inl, inr, ◌<◌, ℕ, List, [], ◌∷◌, length, Some, refl, sym, subst}
use Rattle.std.proofs.Common.{arith}
use Rattle.std.specs.Prelude.{Contains}
use Rattle.heat_plan.specs.declared.token.Token.{Token}
use Rattle.mail_table.specs.Mails.{job_at}
use Rattle.mail_table.specs.declared.mail.Job.{Job}
use Rattle.mail_table.specs.declared.mail.Stage.{Stage}
use Rattle.mail_table.specs.declared.mail.Stage.TheVariants.{Asking, Ending, Polling, Taken}
use Rattle.core_state.specs.State.{StateData}
use Rattle.step_relation.specs.MailFits.{IsUnderWay, polls}
use Rattle.step_relation.specs.Sound.{Standing}
use Rattle.next_laws.proofs.Listings.{no_member}
use Rattle.bound_laws.specs.Bound.{IsWork}
use Rattle.bound_laws.specs.Counts.{Counts}
use Rattle.bound_laws.specs.Exists.{WorkIsLeft}
use Rattle.bound_laws.specs.Full.{IsJob}
use Rattle.bound_laws.specs.Work.{IsLetter}
use Rattle.bound_laws.proofs.Existing.{live_or_not}

-- of a kind that there is, there is one at least
some : {A : Type 0} {P : A → Type 0} {n : ℕ} → Counts P n → (x : A) → P x → 0 < n
some c x has = let long = present c.all x ((c.each x).1 has) in let k = c.count in omega (arith, long, k) where
  present : {A : Type 0} (xs : List A) (x : A) → Contains xs x → 0 < length xs
  present [] x at = absurd (no_member x at)
  present (y ∷ xs) x at = omega arith

module _ (left : Token → ℕ) (s : StateData) (n : ℕ) (h : Standing s) (w : IsWork left s n) where
  live_job : (e : ℕ) (j : Job) → job_at s.jobs e ≡ Some j → Contains s.live e → (stage : Stage)
      → j.stage ≡ stage → 0 < n
  live_job e j its live Taken is =
      let k = some w.taken_are e (record { job = j; its = its; live = live; stage_is = is }) in
      let sum = w.sum in omega (arith, k, sum)
  live_job e j its live Asking is =
      let k = some w.asking_are e (record { job = j; its = its; live = live; stage_is = is }) in
      let sum = w.sum in omega (arith, k, sum)
  live_job e j its live Ending is =
      let k = some w.ending_are e (record { job = j; its = its; live = live; stage_is = is }) in
      let sum = w.sum in omega (arith, k, sum)
  live_job e j its live Polling is =
      let way = h.shape.jobs.under_way e j its (subst IsUnderWay (sym is) polls) in
      let k = some w.polls_are (e, 0) (record {
        at = record { job = j; its = its; live = live; stage_is = is };
        row = way.row;
        found = way.found;
        below = omega arith;
      }) in
      let sum = w.sum in omega (arith, k, sum)

  job_left : (e : ℕ) → IsJob s e → 0 < n
  job_left e k = elim (live_or_not left s e) [
    | inl live ↦ live_job e k.job k.its live k.job.stage refl
    | inr stopped ↦ (let x = some w.stopped_are e (record { job = k.job; its = k.its; stopped = stopped }) in
        let sum = w.sum in omega (arith, x, sum))
  ]

  letter_left : (i : ℕ) → IsLetter s i → 0 < n
  letter_left i k = let x = some w.letters_are i k in let sum = w.sum in omega (arith, x, sum)

pub work_left : WorkIsLeft
work_left left s n h w (inl (i, k)) = letter_left left s n h w i k
work_left left s n h w (inr (e, k)) = job_left left s n h w e k
