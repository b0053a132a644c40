use Rattle.workable_laws.proofs.Admissions.{sound_admitted}
use Rattle.workable_laws.proofs.Openings.{sound}
use Rattle.workable_laws.proofs.a_sound_state_is_workable.Goals as goal

pub returns-clause-workable : goal.returns-clause-workable
returns-clause-workable c = sound

pub returns-clause-admitted : goal.returns-clause-admitted
returns-clause-admitted c = sound_admitted
