use Rattle.std.proofs.lemmas.Result.{err_from_is_err_and}
use Rattle.row_codec.specs.Kinds.{put_point_kind}
use Rattle.row_codec.proofs.ChangeReadings.{kind_refused, kind_taken}
use Rattle.row_codec.proofs.change_reads.put_point_at.Goals as goal

pub returns-in_err-point-clause-err : goal.returns-in_err-point-clause-err
returns-in_err-point-clause-err c =
    let p = err_from_is_err_and c.from_residual.result c.from_residual.ensures.1 in
    rw (p.1, p.2) (kind_refused put_point_kind c.args.rest.now c.in_err-point.field-0.0 c.in_err-point.ensures.err)

pub returns-clause-ok : goal.returns-clause-ok
returns-clause-ok c = kind_taken put_point_kind c.args.rest.now c.in_ok-point.rest.now c.in_ok-point.point c.in_ok-point.ensures.ok
