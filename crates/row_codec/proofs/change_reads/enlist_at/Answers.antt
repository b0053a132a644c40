use Rattle.row_codec.specs.Kinds.{enlist_kind}
use Rattle.row_codec.proofs.ChangeReadings.{kind_refused}
use Rattle.row_codec.proofs.change_reads.enlist_at.Goals as goal

pub returns-in-Err-clause-err : goal.returns-in-Err-clause-err
returns-in-Err-clause-err c = kind_refused enlist_kind c.args.rest.now c.in-Err.why c.in-Err.ensures.err
