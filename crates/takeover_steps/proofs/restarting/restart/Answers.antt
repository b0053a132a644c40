use Rattle.std.proofs.Common.{inr, refl, arith}
use Rattle.step_relation.specs.Steps.{restart}
use Rattle.takeover_steps.specs.Engines.{worn}
use Rattle.takeover_steps.proofs.restarting.restart.Goals as goal

pub returns-then-count-get-clause-cause : goal.returns-then-count-get-clause-cause
returns-then-count-get-clause-cause c = inr (worn (grind (arith, c.if-count-get.true, c.get.ensures, c.next.ensures)))

pub returns-clause-step : goal.returns-clause-step
returns-clause-step c = restart c.args.count c.requires.some c.requires.few
    (grind (arith, c.if-count-get.false, c.get.ensures, c.next.ensures))
    (rw (c.in_ok-new.ensures.changes, c.in_ok-changes.ensures) refl)
    (rw (c.in_ok-new.ensures.entries, c.in_ok-entries.ensures) (grind (arith, c.new.ensures, c.unwrap-first.ensures)))
