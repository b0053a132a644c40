use Rattle.history_laws.proofs.frames.Others.{others_stand}
use Rattle.history_laws.proofs.frames.others_stand_as_before.Goals as goal

pub returns : goal.returns
returns c = others_stand
