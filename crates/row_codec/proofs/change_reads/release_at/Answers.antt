use Rattle.std.proofs.lemmas.Result.{err_from_is_err_and}
use Rattle.row_codec.specs.Kinds.{release_kind}
use Rattle.row_codec.proofs.ChangeReadings.{kind_refused, kind_taken}
use Rattle.row_codec.proofs.change_reads.release_at.Goals as goal

pub returns-in_err-token-clause-err : goal.returns-in_err-token-clause-err
returns-in_err-token-clause-err c =
    let p = err_from_is_err_and c.from_residual.result c.from_residual.ensures.1 in
    rw (p.1, p.2) (kind_refused release_kind c.args.rest.now c.in_err-token.field-0.0 c.in_err-token.ensures.err)

pub returns-clause-ok : goal.returns-clause-ok
returns-clause-ok c = kind_taken release_kind c.args.rest.now c.in_ok-token.rest.now c.in_ok-token.token c.in_ok-token.ensures.ok
