use Rattle.next_laws.proofs.Finds.{calls_may_be_made}
use Rattle.next_laws.proofs.work_laws.calls_may_be_made.Goals as goal

pub returns : goal.returns
returns c = calls_may_be_made
