use Rattle.row_codec.specs.Kinds.{end_job_kind}
use Rattle.row_codec.proofs.ChangeReadings.{kind_refused}
use Rattle.row_codec.proofs.change_reads.end_job_at.Goals as goal

pub returns-in-Err-clause-err : goal.returns-in-Err-clause-err
returns-in-Err-clause-err c = kind_refused end_job_kind c.args.rest.now c.in-Err.why c.in-Err.ensures.err
