use Rattle.step_relation.specs.Steps.{ran}
use Rattle.converge_call.proofs.runs.ran.Goals as goal

pub note-requires : goal.note-requires
note-requires g c = ran _ _
