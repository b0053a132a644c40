use Rattle.row_codec.specs.ChangeLaws.{no_prefix}
use Rattle.row_codec.proofs.laws.no_prefix.Goals as goal

pub returns : goal.returns
returns c = no_prefix
