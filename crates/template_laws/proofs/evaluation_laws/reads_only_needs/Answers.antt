use Rattle.template_laws.proofs.Resolved.{reads_needs}
use Rattle.template_laws.proofs.evaluation_laws.reads_only_needs.Goals as goal

pub returns : goal.returns
returns c = reads_needs
