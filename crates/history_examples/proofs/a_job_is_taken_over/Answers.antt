use Rattle.history_examples.proofs.TakenOver.{is_taken_over}
use Rattle.history_examples.proofs.a_job_is_taken_over.Goals as goal

pub returns : goal.returns
returns c = is_taken_over
