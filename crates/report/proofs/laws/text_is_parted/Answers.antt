use Rattle.report.proofs.Parts.{is_parted}
use Rattle.report.proofs.laws.text_is_parted.Goals as goal

pub returns : goal.returns
returns c = is_parted
