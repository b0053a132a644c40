use Rattle.std.proofs.Common.{sym, ◌∙◌}
use Rattle.check_steps.proofs.Fenced.{other_stage}
use Rattle.check_steps.proofs.begin_parts.begun_parts.Goals as goal

pub returns-in-Asking-clause-none : goal.returns-in-Asking-clause-none
returns-in-Asking-clause-none c = λ none. other_stage _ c.args.e _ (λ is. let other = sym c.in-Asking.is ∙ is in cc)

pub returns-in-Polling-clause-none : goal.returns-in-Polling-clause-none
returns-in-Polling-clause-none c = λ none. other_stage _ c.args.e _ (λ is. let other = sym c.in-Polling.is ∙ is in cc)

pub returns-in-Ending-clause-none : goal.returns-in-Ending-clause-none
returns-in-Ending-clause-none c = λ none. other_stage _ c.args.e _ (λ is. let other = sym c.in-Ending.is ∙ is in cc)
