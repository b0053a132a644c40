-- Worn where no numbers are left.
use Rattle.std.proofs.Common.{ap, inr, refl, ◌∙◌}
use Rattle.std.specs.Prelude.{Err}
use Rattle.book.proofs.Startings.{restart_worn}
use Rattle.book.proofs.opening.restarted.Goals as goal

pub returns-in-Err-Worn-clause-cause : goal.returns-in-Err-Worn-clause-cause
returns-in-Err-Worn-clause-cause c = inr (
  refl,
  restart_worn _ c.args.workers c.restart.result c.restart.ensures.cause
      (c.in-Err-Worn.is ∙ ap Err c.in-Err-Worn.field-0-is),
)
