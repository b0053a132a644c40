use Rattle.history_laws.proofs.headline.MainTheorem.{standing_has_headline}
use Rattle.history_laws.proofs.headline.standing_has_headline.Goals as goal

pub returns : goal.returns
returns c = standing_has_headline
