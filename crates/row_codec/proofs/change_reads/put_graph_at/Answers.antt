use Rattle.std.proofs.lemmas.Result.{err_from_is_err_and}
use Rattle.row_codec.specs.Kinds.{put_graph_kind}
use Rattle.row_codec.proofs.ChangeReadings.{kind_refused}
use Rattle.row_codec.proofs.change_reads.put_graph_at.Goals as goal

pub returns-in_err-parts-clause-err : goal.returns-in_err-parts-clause-err
returns-in_err-parts-clause-err c =
    let p = err_from_is_err_and c.from_residual.result c.from_residual.ensures.1 in
    rw (p.1, p.2) (kind_refused put_graph_kind c.args.rest.now c.in_err-parts.field-0.0 c.in_err-parts.ensures.err)
