use Rattle.std.proofs.Common.{◌≡◌, ◌⊎◌, inl, inr, ℕ, List}
use Rattle.heat_plan.specs.declared.calls.Answered.{Answered}
use Rattle.heat_plan.specs.declared.calls.Answered.TheVariants as answer
use Rattle.step_ends.specs.Answers.{IsFailing, by_code, by_failure}
use Rattle.step_ends.proofs.Called.{told_turn}
use Rattle.step_ends.proofs.poll.answered.Goals as goal

failing : (given : Answered) → (given ≡ answer.Failed) ⊎ ((code : List ℕ) × (given ≡ answer.Broken code)) → IsFailing given
failing given (inl is) = by_failure is
failing given (inr (code, is)) = by_code code is

pub refused-requires-clause-fails : goal.refused-requires-clause-fails
refused-requires-clause-fails c = failing c.args.answer.now c.in-Failed.is

pub returns-in_ok-told-in-NotYet-clause-made : goal.returns-in_ok-told-in-NotYet-clause-made
returns-in_ok-told-in-NotYet-clause-made c =
    told_turn _ _ _ _ _ _ c.requires.call c.requires.answer c.in_ok-told-in-NotYet.ensures c.in_ok-lasting-in-NotYet.ensures.lasts
