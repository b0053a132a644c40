-- The copy is of this state.
use Rattle.std.proofs.Common.{subst, sym}
use Rattle.core_state.specs.State.{StateData}
use Rattle.state_journal.specs.Payloads.{Follows}
use Rattle.state_journal.proofs.reading.leads_on.Goals as goal

pub returns-clause-no : goal.returns-clause-no
returns-clause-no c is t it = c.follow.ensures.no is t
    (subst (λ (s : StateData). Follows c.args.payload.now s t) (sym c.in_ok-copy.ensures) it)
