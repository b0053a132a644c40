use Rattle.std.proofs.lemmas.Result.{err_from_is_err_and}
use Rattle.row_codec.specs.Kinds.{put_stack_kind}
use Rattle.row_codec.proofs.ChangeReadings.{kind_refused, kind_taken}
use Rattle.row_codec.proofs.change_reads.put_stack_at.Goals as goal

pub returns-in_err-stack-clause-err : goal.returns-in_err-stack-clause-err
returns-in_err-stack-clause-err c =
    let p = err_from_is_err_and c.from_residual.result c.from_residual.ensures.1 in
    rw (p.1, p.2) (kind_refused put_stack_kind c.args.rest.now c.in_err-stack.field-0.0 c.in_err-stack.ensures.err)

pub returns-clause-ok : goal.returns-clause-ok
returns-clause-ok c = kind_taken put_stack_kind c.args.rest.now c.in_ok-stack.rest.now c.in_ok-stack.stack c.in_ok-stack.ensures.ok
