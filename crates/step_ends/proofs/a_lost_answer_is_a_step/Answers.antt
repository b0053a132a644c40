use Rattle.step_ends.proofs.LostLemmas.{lost_is_step}
use Rattle.step_ends.proofs.a_lost_answer_is_a_step.Goals as goal

pub returns : goal.returns
returns c = lost_is_step
