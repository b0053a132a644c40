use Rattle.template_laws.proofs.Resolved.{reads_read}
use Rattle.template_laws.proofs.evaluation_laws.reads_only_read.Goals as goal

pub returns : goal.returns
returns c = reads_read
