use Rattle.next_laws.proofs.Finds.{sound_has_work}
use Rattle.next_laws.proofs.work_laws.a_sound_state_has_work.Goals as goal

pub returns : goal.returns
returns c = sound_has_work
