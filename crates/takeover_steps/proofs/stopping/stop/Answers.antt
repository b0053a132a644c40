use Rattle.std.proofs.Common.{inr, refl}
use Rattle.std.proofs.lemmas.Bool.{both_ways}
use Rattle.step_relation.specs.Refusals.{not_live}
use Rattle.step_relation.specs.Steps.{stop}
use Rattle.takeover_steps.proofs.stopping.stop.Goals as goal

pub returns-then-not-is_live-clause-cause : goal.returns-then-not-is_live-clause-cause
returns-then-not-is_live-clause-cause c =
    inr (not_live (λ live. both_ways c.is_live.result c.if-not-is_live.true (c.is_live.ensures.1 live)))

pub returns-clause-step : goal.returns-clause-step
returns-clause-step c = stop c.args.e (c.is_live.ensures.0 c.if-not-is_live.false)
    (rw (c.in_ok-new.ensures.changes, c.in_ok-push.ensures.ok, c.new-changes.ensures) refl)
    (rw (c.in_ok-new.ensures.entries, c.in_ok-entries.ensures) refl)
