use Rattle.std.proofs.lemmas.Result.{err_from_is_err_and}
use Rattle.plan_codec.proofs.Readings.{length_refused, short_refused, bytes_taken}
use Rattle.plan_codec.proofs.texts.bytes_at.Goals as goal

pub returns-in_err-length-clause-err : goal.returns-in_err-length-clause-err
returns-in_err-length-clause-err c =
    let p = err_from_is_err_and c.from_residual.result c.from_residual.ensures.1 in
    rw (p.1, p.2) (length_refused c.args.bytes.now c.in_err-length.field-0.0 c.in_err-length.ensures.err)

pub returns-in_err-front-clause-err : goal.returns-in_err-front-clause-err
returns-in_err-front-clause-err c =
    let p = err_from_is_err_and c.from_residual-in_err-front.result c.from_residual-in_err-front.ensures.1 in
    rw (p.1, p.2)
    (short_refused c.args.bytes.now c.in_ok-length.rest.now c.in_ok-length.length c.in_err-front.field-0.0
    c.in_ok-length.ensures.ok c.in_err-front.ensures.short)

pub returns-clause-ok : goal.returns-clause-ok
returns-clause-ok c = bytes_taken c.args.bytes.now c.in_ok-length.rest.now c.in_ok-front.front.now
    c.in_ok-front.rest.now c.in_ok-length.length c.in_ok-length.ensures.ok c.in_ok-front.ensures.whole
    c.in_ok-front.ensures.count
