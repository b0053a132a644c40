use Rattle.report.proofs.Currents.{seen_is_current}
use Rattle.report.proofs.laws.seen_row_is_current.Goals as goal

pub returns : goal.returns
returns c = seen_is_current
