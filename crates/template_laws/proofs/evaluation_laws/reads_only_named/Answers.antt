use Rattle.template_laws.proofs.Resolved.{reads_named}
use Rattle.template_laws.proofs.evaluation_laws.reads_only_named.Goals as goal

pub returns : goal.returns
returns c = reads_named
