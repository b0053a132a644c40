use Rattle.workable_laws.proofs.Openings.{admitted}
use Rattle.workable_laws.proofs.Restarts.{restarted_workable}
use Rattle.workable_laws.proofs.an_admitted_image_is_workable.Goals as goal

pub returns-clause-still : goal.returns-clause-still
returns-clause-still c = admitted

pub returns-clause-restarted : goal.returns-clause-restarted
returns-clause-restarted c = restarted_workable
