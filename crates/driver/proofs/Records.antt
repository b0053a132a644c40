-- What one letter, row or job stands for.
use Rattle.std.proofs.Common.{ap, arith, refl, subst, sym, ◌∙◌}
use Rattle.std.specs.Prelude.{Contains, List, Some, ℕ, ◌*◌, ◌+◌, ◌≡◌, ◌≢◌}
use Rattle.row_table.specs.Rows.{row_at}
use Rattle.row_table.specs.declared.row.Row.{Row}
use Rattle.mail_table.specs.Mails.{job_at, letter_at}
use Rattle.mail_table.specs.declared.mail.Job.{Job}
use Rattle.mail_table.specs.declared.mail.Letter.{Letter}
use Rattle.mail_table.specs.declared.mail.Stage.{Stage}
use Rattle.mail_table.specs.declared.mail.Stage.TheVariants.{Asking, Ending, Polling, Taken}
use Rattle.core_state.specs.State.{StateData, stack_at}
use Rattle.core_state.specs.declared.stack.Stack.{Stack}
use Rattle.step_relation.specs.MailFits.{IsStale}
use Rattle.history_laws.proofs.tables.Rows.{same_some}
use Rattle.bound_laws.specs.Rolls.{MayRoll, RollJob, RollLetter, RollRow}
use Rattle.bound_laws.specs.Work.{IsAt, IsLate, IsLeft}
use Rattle.driver.specs.Parts.{IsOne, JobWork, none, one, stage_work}
use Rattle.driver.proofs.Ones.{same_one}

module _ (s : StateData) where
  -- the stack of that name may be rolled back
  abbrev pub MayRollBack : List ℕ → Type 0
  MayRollBack name = (st : Stack) × MayRoll s name st

  pub letter_rolls : (l : Letter) (st : Stack) → letter_at s.letters l.no ≡ Some l → MayRoll s l.stack st
      → l.trav ≡ st.trav
      → RollLetter s l.no
  letter_rolls l st found may newest = record { letter = l; at = found; stack = st; may = may; newest = newest }

  pub letter_stays : (l : Letter) (st : Stack) → letter_at s.letters l.no ≡ Some l → MayRoll s l.stack st
      → l.trav ≢ st.trav
      → ¬ RollLetter s l.no
  letter_stays l st found may old k =
      let same = same_some k.letter l k.at found in
      let stacks = same_some k.stack st
      (subst (λ (x : Letter). stack_at s.stacks x.stack ≡ Some k.stack) same k.may.in_table) may.in_table in
      old (ap (λ (x : Letter). x.trav) (sym same) ∙ (k.newest ∙ ap (λ (x : Stack). x.trav) stacks))

  pub letter_never : (l : Letter) → letter_at s.letters l.no ≡ Some l → ((st : Stack) → ¬ MayRoll s l.stack st)
      → ¬ RollLetter s l.no
  letter_never l found never k =
      never k.stack (subst (λ (x : Letter). MayRoll s x.stack k.stack) (same_some k.letter l k.at found) k.may)

  pub row_rolls : (r : Row) (n : ℕ) → row_at s.rows r.no ≡ Some r → IsOne (MayRollBack r.stack) n
      → IsOne (RollRow s r.no) n
  row_rolls r n found may = same_one n may (λ m. record { row = r; found = found; stack = m.0; may = m.1 })
      (λ k. (k.stack, subst (λ (x : Row). MayRoll s x.stack k.stack) (same_some k.row r k.found found) k.may))

  module _ (j : Job) (its : job_at s.jobs j.engine ≡ Some j) where
    job_rolls : (n : ℕ) → IsOne (MayRollBack j.letter.stack) n → IsOne (RollJob s j.engine) n
    job_rolls n may = same_one n may (λ m. record { job = j; its = its; stack = m.0; may = m.1 })
        (λ k. (k.stack, subst (λ (x : Job). MayRoll s x.letter.stack k.stack) (same_some k.job j k.its its) k.may))

    pub left_work : (rolls : ℕ) → ¬ Contains s.live j.engine → IsOne (MayRollBack j.letter.stack) rolls
        → JobWork s j.engine (70 + 69 * rolls)
    left_work rolls stopped may = record {
      stopped = 1;
      taken = 0;
      asking = 0;
      polling = 0;
      ending = 0;
      late = 0;
      rolls = rolls;
      stopped_is = one (record { job = j; its = its; stopped = stopped }) refl;
      taken_is = none (λ k. stopped k.live) refl;
      asking_is = none (λ k. stopped k.live) refl;
      polling_is = none (λ k. stopped k.live) refl;
      ending_is = none (λ k. stopped k.live) refl;
      late_is = none (λ k. stopped k.live) refl;
      rolls_is = job_rolls rolls may;
      sum = omega arith;
    }

    module _ (live : Contains s.live j.engine) where
      at : (x : Stage) → j.stage ≡ x → IsAt x s j.engine
      at x is = record { job = j; its = its; live = live; stage_is = is }

      not_at : (x y : Stage) → j.stage ≡ x → x ≢ y → ¬ IsAt y s j.engine
      not_at x y is ne k = ne (sym is ∙ (ap (λ (i : Job). i.stage) (sym (same_some k.job j k.its its)) ∙ k.stage_is))

      late_one : (n : ℕ) → IsOne (IsStale s.stacks j.letter) n → IsOne (IsLate s j.engine) n
      late_one n stale = same_one n stale (λ old. record { job = j; its = its; live = live; stale = old })
          (λ k. subst (λ (i : Job). IsStale s.stacks i.letter) (same_some k.job j k.its its) k.stale)

      pub live_work : (late rolls : ℕ) → IsOne (IsStale s.stacks j.letter) late
          → IsOne (MayRollBack j.letter.stack) rolls
          → JobWork s j.engine (stage_work j.stage + 69 * late + 69 * rolls)
      live_work late rolls stale may = by j.stage refl where
        by : (x : Stage) → j.stage ≡ x → JobWork s j.engine (stage_work x + 69 * late + 69 * rolls)
        by Taken is = record {
          stopped = 0;
          taken = 1;
          asking = 0;
          polling = 0;
          ending = 0;
          late = late;
          rolls = rolls;
          stopped_is = none (λ k. k.stopped live) refl;
          taken_is = one (at Taken is) refl;
          asking_is = none (not_at Taken Asking is (λ e. cc)) refl;
          polling_is = none (not_at Taken Polling is (λ e. cc)) refl;
          ending_is = none (not_at Taken Ending is (λ e. cc)) refl;
          late_is = late_one late stale;
          rolls_is = job_rolls rolls may;
          sum = omega arith;
        }
        by Asking is = record {
          stopped = 0;
          taken = 0;
          asking = 1;
          polling = 0;
          ending = 0;
          late = late;
          rolls = rolls;
          stopped_is = none (λ k. k.stopped live) refl;
          taken_is = none (not_at Asking Taken is (λ e. cc)) refl;
          asking_is = one (at Asking is) refl;
          polling_is = none (not_at Asking Polling is (λ e. cc)) refl;
          ending_is = none (not_at Asking Ending is (λ e. cc)) refl;
          late_is = late_one late stale;
          rolls_is = job_rolls rolls may;
          sum = omega arith;
        }
        by Polling is = record {
          stopped = 0;
          taken = 0;
          asking = 0;
          polling = 1;
          ending = 0;
          late = late;
          rolls = rolls;
          stopped_is = none (λ k. k.stopped live) refl;
          taken_is = none (not_at Polling Taken is (λ e. cc)) refl;
          asking_is = none (not_at Polling Asking is (λ e. cc)) refl;
          polling_is = one (at Polling is) refl;
          ending_is = none (not_at Polling Ending is (λ e. cc)) refl;
          late_is = late_one late stale;
          rolls_is = job_rolls rolls may;
          sum = omega arith;
        }
        by Ending is = record {
          stopped = 0;
          taken = 0;
          asking = 0;
          polling = 0;
          ending = 1;
          late = late;
          rolls = rolls;
          stopped_is = none (λ k. k.stopped live) refl;
          taken_is = none (not_at Ending Taken is (λ e. cc)) refl;
          asking_is = none (not_at Ending Asking is (λ e. cc)) refl;
          polling_is = none (not_at Ending Polling is (λ e. cc)) refl;
          ending_is = one (at Ending is) refl;
          late_is = late_one late stale;
          rolls_is = job_rolls rolls may;
          sum = omega arith;
        }
