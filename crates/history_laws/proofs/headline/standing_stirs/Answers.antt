use Rattle.history_laws.proofs.headline.Stirring.{standing_stirs}
use Rattle.history_laws.proofs.headline.standing_stirs.Goals as goal

pub returns : goal.returns
returns c = standing_stirs
