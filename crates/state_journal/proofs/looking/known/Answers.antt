-- What stands behind the payloads was followed from their state.
use Rattle.std.proofs.Common.{Ok, ap, subst, sym}
use Rattle.state_journal.specs.Payloads.{Give}
use Rattle.state_journal.specs.Readings.{IsKnownBehind}
use Rattle.state_journal.proofs.Payloads.{behind_by}
use Rattle.state_journal.proofs.looking.known.Goals as goal
use Rattle.state_journal.proofs.looking.known.Goals.{in-Some-pending+in_ok-leads_on, in_default-pending}

pub returns-in_default-clause-none : goal.returns-in_default-clause-none
returns-in_default-clause-none c same = c.in_ok-state.ensures.none (ap Ok c.in_default.is)

pub returns-clause-known : goal.returns-clause-known
returns-clause-known c =
    let give : Give c.args.payloads.now c.in-Some.state.state = rw c.in-Some.is at c.in_ok-state.ensures.some in
    elim c.match-pending.branch [
      | in-Some-pending+in_ok-leads_on w ↦ subst (IsKnownBehind c.args.payloads.now) (sym w.in-Some-pending.is)
          (behind_by c.args.payloads.now w.in-Some-pending.payload c.in-Some.state.state give w.leads_on.result
          w.in_ok-leads_on.field-0 w.in_ok-leads_on.was w.leads_on.ensures.yes w.leads_on.ensures.no)
      | in_default-pending w ↦ subst (IsKnownBehind c.args.payloads.now) (sym w.in_default-pending.is) tt
    ]
