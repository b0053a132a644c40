use Rattle.std.proofs.lemmas.Bool.{both_ways}
use Rattle.std.proofs.lemmas.Result.{err_from_is_err_and}
use Rattle.plan_codec.proofs.Readings.{not_taken, refused_more, taken_more}
use Rattle.row_codec.specs.Records.{spelled_row, IsProperRow}
use Rattle.row_codec.specs.RecordLaws.{IsAnyRow, any_row, any_row_unique, proper_row}
use Rattle.row_codec.proofs.row_reads.row_at.Goals as goal

pub returns-in_err-row-clause-err : goal.returns-in_err-row-clause-err
returns-in_err-row-clause-err c =
    let p = err_from_is_err_and c.from_residual.result c.from_residual.ensures.1 in
    rw (p.1, p.2)
    (refused_more spelled_row IsAnyRow IsProperRow c.args.bytes.now c.in_err-row.field-0.0 any_row c.in_err-row.ensures.err)

pub returns-then-not-is_storable-clause-err : goal.returns-then-not-is_storable-clause-err
returns-then-not-is_storable-clause-err c =
    not_taken c.args.bytes.now c.in_ok-row.rest.now c.in_ok-row.row any_row_unique any_row c.in_ok-row.ensures.ok
    (λ h. both_ways c.is_storable.result c.if-not-is_storable.true (c.is_storable.ensures.1 (h.key, h.act)))

pub returns-clause-ok : goal.returns-clause-ok
returns-clause-ok c =
    let kept = c.is_storable.ensures.0 c.if-not-is_storable.false in
    taken_more spelled_row IsAnyRow IsProperRow c.args.bytes.now c.in_ok-row.rest.now c.in_ok-row.row
    (proper_row c.in_ok-row.row c.in_ok-row.ensures.ok.fits kept.0 kept.1) c.in_ok-row.ensures.ok
