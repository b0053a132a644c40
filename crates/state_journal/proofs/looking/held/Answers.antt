-- As it is known.
use Rattle.std.proofs.Common.{List, Ok, ap, subst, ℕ}
use Rattle.core_state.specs.State.{StateData}
use Rattle.state_journal.specs.Payloads.{Give}
use Rattle.state_journal.proofs.looking.held.Goals as goal

pub returns-in-Ok-None-clause-none : goal.returns-in-Ok-None-clause-none
returns-in-Ok-None-clause-none c same = subst (λ (ps : List (List ℕ)). (s : StateData) → ¬ Give ps s) c.deref.ensures.value
    (c.in-Ok-None.ensures.none (ap Ok c.in-Ok-None.field-0-is))
