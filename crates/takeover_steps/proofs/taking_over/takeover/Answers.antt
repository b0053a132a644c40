use Rattle.takeover_steps.proofs.TurnLemmas.{relay_refuses, relay_turns}
use Rattle.takeover_steps.proofs.taking_over.takeover.Goals as goal

pub returns-in-Some-clause-made : goal.returns-in-Some-clause-made
returns-in-Some-clause-made c =
    relay_turns _ _ c.args.job.now _ _ _ _ c.requires c.in-Some.ensures.some c.relay.result c.relay.ensures.changes
    c.relay.ensures.entries c.relay.ensures.lasts

pub returns-in-Some-clause-cause : goal.returns-in-Some-clause-cause
returns-in-Some-clause-cause c =
    relay_refuses _ _ c.args.job.now _ _ _ _ c.requires c.in-Some.ensures.some c.relay.result
    c.relay.ensures.cause
