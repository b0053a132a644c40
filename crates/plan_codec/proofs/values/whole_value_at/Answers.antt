use Rattle.std.proofs.lemmas.Result.{err_from_is_err_and}
use Rattle.plan_codec.proofs.ValueReadings.{whole_refused}
use Rattle.plan_codec.proofs.values.whole_value_at.Goals as goal

pub returns-in_err-whole-clause-err : goal.returns-in_err-whole-clause-err
returns-in_err-whole-clause-err c =
    let p = err_from_is_err_and c.from_residual.result c.from_residual.ensures.1 in
    rw (p.1, p.2) (whole_refused c.args.limit c.args.rest.now c.in_err-whole.field-0.0 c.in_err-whole.ensures.err)
