use Rattle.step_relation.specs.Steps.{turned}
use Rattle.converge_call.proofs.runs.turned.Goals as goal

pub note-requires : goal.note-requires
note-requires g c = turned _ _
