use Rattle.std.proofs.lemmas.Result.{err_from_is_err_and}
use Rattle.row_codec.specs.Kinds.{put_past_kind}
use Rattle.row_codec.proofs.ChangeReadings.{kind_refused, kind_taken}
use Rattle.row_codec.proofs.change_reads.put_past_at.Goals as goal

pub returns-in_err-past-clause-err : goal.returns-in_err-past-clause-err
returns-in_err-past-clause-err c =
    let p = err_from_is_err_and c.from_residual.result c.from_residual.ensures.1 in
    rw (p.1, p.2) (kind_refused put_past_kind c.args.rest.now c.in_err-past.field-0.0 c.in_err-past.ensures.err)

pub returns-clause-ok : goal.returns-clause-ok
returns-clause-ok c = kind_taken put_past_kind c.args.rest.now c.in_ok-past.rest.now c.in_ok-past.past c.in_ok-past.ensures.ok
