use Rattle.row_codec.proofs.NodeReadings.{clean_up_refused}
use Rattle.row_codec.proofs.nodes.clean_up_at.Goals as goal

pub returns-in-Err-clause-err : goal.returns-in-Err-clause-err
returns-in-Err-clause-err c = clean_up_refused c.args.rest.now c.in-Err.why c.in-Err.ensures.err
