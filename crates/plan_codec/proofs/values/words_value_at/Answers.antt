use Rattle.std.proofs.lemmas.Result.{err_from_is_err_and}
use Rattle.plan_codec.proofs.ValueReadings.{words_refused}
use Rattle.plan_codec.proofs.values.words_value_at.Goals as goal

pub returns-in_err-words-clause-err : goal.returns-in_err-words-clause-err
returns-in_err-words-clause-err c =
    let p = err_from_is_err_and c.from_residual.result c.from_residual.ensures.1 in
    rw (p.1, p.2) (words_refused c.args.limit c.args.rest.now c.in_err-words.field-0.0 c.in_err-words.ensures.err)
