use Rattle.std.proofs.lemmas.Result.{err_from_is_err_and}
use Rattle.row_codec.proofs.NodeReadings.{update_refused}
use Rattle.row_codec.proofs.nodes.update_at.Goals as goal

pub returns-in_err-parts-clause-err : goal.returns-in_err-parts-clause-err
returns-in_err-parts-clause-err c =
    let p = err_from_is_err_and c.from_residual.result c.from_residual.ensures.1 in
    rw (p.1, p.2) (update_refused c.args.rest.now c.in_err-parts.field-0.0 c.in_err-parts.ensures.err)
