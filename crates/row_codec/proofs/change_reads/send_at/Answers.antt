use Rattle.std.proofs.lemmas.Result.{err_from_is_err_and}
use Rattle.row_codec.specs.Kinds.{send_kind}
use Rattle.row_codec.proofs.ChangeReadings.{kind_refused}
use Rattle.row_codec.proofs.change_reads.send_at.Goals as goal

pub returns-in_err-letter-clause-err : goal.returns-in_err-letter-clause-err
returns-in_err-letter-clause-err c =
    let p = err_from_is_err_and c.from_residual.result c.from_residual.ensures.1 in
    rw (p.1, p.2) (kind_refused send_kind c.args.rest.now c.in_err-letter.field-0.0 c.in_err-letter.ensures.err)
