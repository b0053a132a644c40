-- Payload by payload.
use Rattle.std.proofs.Common.{Ok, ap}
use Rattle.state_journal.proofs.Payloads.{give_further, give_halts}
use Rattle.state_journal.proofs.reading.state_of.Goals as goal

pub loop-payload-preserved : goal.loop-payload-preserved
loop-payload-preserved c =
    give_further c.args.payloads.now c.loop-payload.payload-index c.payload-item.result c.loop-payload.state.state
    c.loop-payload-test.true c.payload-item.is c.loop-payload.invariant c.follow.new.state.state
    (c.in_ok-follow.ensures.yes (ap Ok c.if-not-branch.false))

pub returns-then-not-branch-clause-none : goal.returns-then-not-branch-clause-none
returns-then-not-branch-clause-none c same =
    give_halts c.args.payloads.now c.loop-payload.payload-index c.payload-item.result c.loop-payload.state.state
    c.loop-payload-test.true c.payload-item.is c.loop-payload.invariant
    (c.in_ok-follow.ensures.no (ap Ok c.if-not-branch.true))
