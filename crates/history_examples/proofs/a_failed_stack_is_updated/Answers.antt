use Rattle.history_examples.proofs.FailedFirst.{is_updated_after_failure}
use Rattle.history_examples.proofs.a_failed_stack_is_updated.Goals as goal

pub returns : goal.returns
returns c = is_updated_after_failure
