use Rattle.std.proofs.Common.{refl}
use Rattle.row_codec.specs.Changes.{spelled}
use Rattle.row_codec.specs.ChangeLaws.{one_reading}
use Rattle.row_codec.proofs.laws.read_back.Goals as goal

pub returns : goal.returns
returns c = λ cs ds p. ((refl, p), λ h. one_reading (spelled cs) ds cs h (refl, p))
