use Rattle.history_laws.proofs.headline.Empty.{empty_is_sound}
use Rattle.history_laws.proofs.headline.empty_is_sound.Goals as goal

pub returns : goal.returns
returns c = empty_is_sound
