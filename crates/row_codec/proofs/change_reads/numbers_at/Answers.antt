use Rattle.row_codec.specs.Kinds.{numbers_kind}
use Rattle.row_codec.proofs.ChangeReadings.{kind_refused, kind_taken}
use Rattle.row_codec.proofs.change_reads.numbers_at.Goals as goal

pub returns-in-Err-clause-err : goal.returns-in-Err-clause-err
returns-in-Err-clause-err c = kind_refused numbers_kind c.args.rest.now c.in-Err.why c.in-Err.ensures.err

pub returns-in-Ok-clause-ok : goal.returns-in-Ok-clause-ok
returns-in-Ok-clause-ok c = kind_taken numbers_kind c.args.rest.now c.in-Ok.rest.now c.in-Ok.numbers c.in-Ok.ensures.ok
