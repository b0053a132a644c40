use Rattle.history_laws.proofs.headline.MainTheorem.{standing_keeps_sound}
use Rattle.history_laws.proofs.headline.standing_keeps_sound.Goals as goal

pub returns : goal.returns
returns c = standing_keeps_sound
