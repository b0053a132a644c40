use Rattle.row_codec.specs.ChangeLaws.{one_reading}
use Rattle.row_codec.proofs.laws.one_reading.Goals as goal

pub returns : goal.returns
returns c = one_reading
