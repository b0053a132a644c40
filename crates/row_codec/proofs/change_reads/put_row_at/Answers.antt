use Rattle.std.proofs.lemmas.Result.{err_from_is_err_and}
use Rattle.row_codec.specs.Kinds.{put_row_kind}
use Rattle.row_codec.proofs.ChangeReadings.{kind_refused, kind_taken}
use Rattle.row_codec.proofs.change_reads.put_row_at.Goals as goal

pub returns-in_err-row-clause-err : goal.returns-in_err-row-clause-err
returns-in_err-row-clause-err c =
    let p = err_from_is_err_and c.from_residual.result c.from_residual.ensures.1 in
    rw (p.1, p.2) (kind_refused put_row_kind c.args.rest.now c.in_err-row.field-0.0 c.in_err-row.ensures.err)

pub returns-clause-ok : goal.returns-clause-ok
returns-clause-ok c = kind_taken put_row_kind c.args.rest.now c.in_ok-row.rest.now c.in_ok-row.row c.in_ok-row.ensures.ok
