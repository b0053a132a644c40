use Rattle.history_examples.proofs.DeletedHalfway.{is_deleted_halfway}
use Rattle.history_examples.proofs.a_stack_is_deleted_halfway.Goals as goal

pub returns : goal.returns
returns c = is_deleted_halfway
