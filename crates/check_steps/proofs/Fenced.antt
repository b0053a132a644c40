-- Which steps are overtaken: by what is next of the engine's job, or of its letter.
use Rattle.std.proofs.Common.{Bool, false, not, refl, subst, sym, true, ℕ, ◌≡◌}
use Rattle.std.specs.Bool.{OnFalse, OnTrue}
use Rattle.mail_table.specs.declared.mail.Job.{Job}
use Rattle.mail_table.specs.declared.mail.Letter.{Letter}
use Rattle.mail_table.specs.declared.mail.Stage.TheVariants.{Taken}
use Rattle.mail_table.specs.declared.mail.Stage.{Stage}
use Rattle.core_state.specs.State.{StateData}
use Rattle.step_relation.specs.Nexts.{TakesNext, TakesOver, Works}
use Rattle.check_steps.specs.AtUpdate.{AtUpdate}
use Rattle.check_steps.specs.Looks.{IsBegin, IsWork}
use Rattle.check_steps.specs.Parts.{HasParts, IsParts, parts_read}
use Rattle.check_steps.specs.declared.looks.BeginWork.{BeginWork}
use Rattle.check_steps.specs.declared.looks.Work.TheVariants as work
use Rattle.check_steps.specs.declared.looks.Work.{Work}
use Rattle.check_steps.specs.declared.begin_parts.Parts.{Parts}
use Rattle.check_steps.proofs.Seeing.{at_job, begin_one, begin_read, plain_works, takes_no_begin, takes_over_no_begin}

pub OnTrue_not : (b : Bool) (P : Type 0) → (b ≡ false → P) → OnTrue (not b) P
OnTrue_not true P h = tt
OnTrue_not false P h = h refl

pub OnFalse_not : (b : Bool) (P : Type 0) → (b ≡ true → P) → OnFalse (not b) P
OnFalse_not true P h = h refl
OnFalse_not false P h = tt

module _ (s : StateData) (e : ℕ) where
  -- where the begin of its job is next
  module _ (j : Job) (it : Parts) (h : HasParts s e j it) (w : Work) where
    pub reads_another : (v : BeginWork) → w ≡ work.Begin v → ¬ (parts_read it ≡ v) → ¬ IsWork s e w
    reads_another v is ne next = ne (begin_one s e (parts_read it) v (begin_read s e j it h.parts)
        (subst (λ (x : Work). IsWork s e x) is next))

    pub reads_this : (v : BeginWork) → w ≡ work.Begin v → parts_read it ≡ v → IsWork s e w
    reads_this v is same = subst (λ (x : Work). IsWork s e x) (sym is)
        (subst (λ (x : BeginWork). IsBegin s e x) same (begin_read s e j it h.parts))

    pub begins_not_plain : w ≡ work.Plain → ¬ IsWork s e w
    begins_not_plain is next = (subst (λ (x : Work). IsWork s e x) is next).other j h.at

  -- where another step of its job is
  module _ (j : Job) (stage : Stage) (works : Works s e j stage) (none : ¬ AtUpdate s e j) (w : Work) where
    pub plain_no_begin : (v : BeginWork) → w ≡ work.Begin v → ¬ IsWork s e w
    plain_no_begin v is next = none (at_job s e j stage v works (subst (λ (x : Work). IsWork s e x) is next))

    pub plain_this : w ≡ work.Plain → IsWork s e w
    plain_this is = subst (λ (x : Work). IsWork s e x) (sym is) (plain_works s e j stage works none)

  -- where it has no job
  pub take_another : (l : Letter) → TakesNext s e l → (w : Work) → ¬ (w ≡ work.Plain) → ¬ IsWork s e w
  take_another l t (work.Begin v) ne next = takes_no_begin s e l v t next
  take_another l t work.Plain ne next = ne refl

  pub take_over_another : (f : ℕ) (j : Job) → TakesOver s e f j → (w : Work) → ¬ (w ≡ work.Plain) → ¬ IsWork s e w
  take_over_another f j t (work.Begin v) ne next = takes_over_no_begin s e f j v t next
  take_over_another f j t work.Plain ne next = ne refl

-- a job at another stage begins nothing
pub other_stage : (s : StateData) (e : ℕ) (j : Job) → ¬ (j.stage ≡ Taken) → ¬ AtUpdate s e j
other_stage s e j ne at = ne at.works.stage_is
