-- How the names that a call looks up are noted, step by step.
use Rattle.std.proofs.Common.{◌≡◌, ◌∙◌, ◌++◌, ℕ, Bool, true, Option, Result, sym, ap}
use Rattle.std.specs.Prelude.{⊤}
use Rattle.heat_value.specs.Data.{Data}
use Rattle.heat_value.specs.declared.path.Step.TheVariants.{Key}
use Rattle.eval_words.specs.Evaluation.{Evaluating, Sole, argument}
use Rattle.eval_words.specs.Looks.{Looks, Reading, SoleReads, reads_behind, answer_reads, argument_reads, call_reads}
use Rattle.eval_words.specs.Manners.{manner_of}
use Rattle.eval_words.specs.Outcomes.{Gives, charged, size, under}
use Rattle.eval_words.specs.declared.fault.EvalFault.{EvalFault}
use Rattle.eval_words.specs.declared.fault.EvalFault.TheVariants as fault
use Rattle.eval_words.specs.declared.function.Function.{Function}
use Rattle.hot_eval.specs.Answers.{IsFaultIn}
use Rattle.hot_eval.specs.Noted.{noted, IsNoted, IsNotedTo}
use Rattle.hot_eval.proofs.Calls.{charged_as, charged_fault}
use Rattle.hot_eval.proofs.Noting.{noted_as, noted_on, noted_stop, noted_to, behind-under, behind_gives}
use Rattle.hot_eval.proofs.Reading.{formed_are}

module _ (A : Evaluating) (R : Reading) (f : Function) (m : Sole) (r : SoleReads) (n : ℕ) (old : Option Looks) where
  abbrev then_answers : Data → ℕ → Looks
  then_answers a s = reads_behind (charged a (size a) s) (answer_reads A R f)

  -- what the argument looks up, and what stands behind it, seen from the call
  abbrev seen_looks : Looks
  seen_looks =
      argument_reads (manner_of f) r n ++ reads_behind (under (Key m.key) (argument (manner_of f) m n)) then_answers

  seen_are : (formed : Bool) → formed ≡ true → call_reads A R f formed m r n ≡ seen_looks
  seen_are formed is =
      formed_are A R f m r n formed is
      ∙ ap (λ (x : Looks). argument_reads (manner_of f) r n ++ x)
      (sym (behind-under (Key m.key) (argument (manner_of f) m n) then_answers))

  -- its argument is at fault
  pub call_looks_fault : (e : EvalFault) (formed : Bool) (new : Option Looks) → formed ≡ true
      → IsFaultIn e (under (Key m.key) (argument (manner_of f) m n))
      → IsNotedTo e old new (argument_reads (manner_of f) r n) → IsNotedTo e old new (call_reads A R f formed m r n)
  call_looks_fault e formed new is at_fault told =
      noted_to e old new _ _ (seen_are formed is)
      (noted_stop e (under (Key m.key) (argument (manner_of f) m n)) then_answers old new (argument_reads (manner_of f) r n)
      at_fault told)

  -- its argument costs too much
  pub call_looks_charge : (e : EvalFault) (formed : Bool) (a : Data) (s : ℕ) (new : Option Looks) → formed ≡ true
      → under (Key m.key) (argument (manner_of f) m n) ≡ Gives a s → new ≡ noted (argument_reads (manner_of f) r n) old
      → IsFaultIn e (charged {A = ⊤} tt (size a) s) → IsNotedTo e old new (call_reads A R f formed m r n)
  call_looks_charge e formed a s new is made told at_fault =
      noted_to e old new _ _ (seen_are formed is ∙ ap (λ (x : Looks). argument_reads (manner_of f) r n ++ x)
      (behind_gives (under (Key m.key) (argument (manner_of f) m n)) then_answers a s made))
      (noted_stop e (charged a (size a) s) (answer_reads A R f) old new (argument_reads (manner_of f) r n)
      (charged_fault e a (size a) s at_fault) (noted_all e told))
    where
      noted_all : (e : EvalFault) → new ≡ noted (argument_reads (manner_of f) r n) old
          → IsNotedTo e old new (argument_reads (manner_of f) r n)
      noted_all (fault.Wrong c p) is = is
      noted_all fault.Memory is = tt

  -- it answers
  pub call_looks_gives : {V : Type 0} (q : Result V EvalFault) (formed : Bool) (a : Data) (s t : ℕ) (mid new : Option Looks)
      → formed ≡ true → under (Key m.key) (argument (manner_of f) m n) ≡ Gives a s
      → mid ≡ noted (argument_reads (manner_of f) r n) old → charged {A = ⊤} tt (size a) s ≡ Gives tt t
      → IsNoted q mid new (answer_reads A R f a t) → IsNoted q old new (call_reads A R f formed m r n)
  call_looks_gives q formed a s t mid new is made told counted more =
      noted_as q old new _ _ (seen_are formed is)
      (noted_on q (under (Key m.key) (argument (manner_of f) m n)) then_answers a s old mid new
      (argument_reads (manner_of f) r n) made told
      (noted_as q mid new _ _ (ap (λ o. reads_behind o (answer_reads A R f)) (charged_as a (size a) s t counted)) more))
