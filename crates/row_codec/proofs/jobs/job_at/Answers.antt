use Rattle.std.proofs.lemmas.Result.{err_from_is_err_and}
use Rattle.plan_codec.proofs.Readings.{taken_as, refused_as}
use Rattle.row_codec.specs.RecordLaws.{job_parts}
use Rattle.row_codec.proofs.jobs.job_at.Goals as goal

pub returns-in_err-parts-clause-err : goal.returns-in_err-parts-clause-err
returns-in_err-parts-clause-err c =
    let p = err_from_is_err_and c.from_residual.result c.from_residual.ensures.1 in
    rw (p.1, p.2) (refused_as job_parts c.args.bytes.now c.in_err-parts.field-0.0 c.in_err-parts.ensures.err)

pub returns-clause-ok : goal.returns-clause-ok
returns-clause-ok c = rw c.job_of.ensures
    (taken_as job_parts c.args.bytes.now c.in_ok-parts.rest.now c.in_ok-parts.parts c.in_ok-parts.ensures.ok)
