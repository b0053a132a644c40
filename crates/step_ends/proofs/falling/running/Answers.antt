-- A job that has work, and its stack without a mark.
use Rattle.step_ends.proofs.Fallen.{its_stack, running_fall}
use Rattle.step_ends.proofs.falling.running.Goals as goal

pub returns-in-InProgress : goal.returns-in-InProgress
returns-in-InProgress c = (
  c.in-InProgress.is,
  running_fall _ _ _ _ _ _ c.in-Some.ensures.some c.in-InProgress.is,
  its_stack _ _ _ _ _ _ _ c.in-Some.ensures.some,
)
