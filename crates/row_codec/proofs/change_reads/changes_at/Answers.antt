use Rattle.std.proofs.Common.{◌≡◌, ◌∙◌, arith}
use Rattle.std.proofs.lemmas.Result.{err_from_is_err_and}
use Rattle.plan_codec.proofs.Readings.{item_refused, items_taken}
use Rattle.row_codec.specs.ChangeLaws.{change_unique}
use Rattle.row_codec.specs.Changes.{spelled_change, IsProper}
use Rattle.row_codec.proofs.change_reads.changes_at.Goals as goal

pub returns-in_err-change-clause-err : goal.returns-in_err-change-clause-err
returns-in_err-change-clause-err c =
    let p = err_from_is_err_and c.from_residual-in_err-change.result c.from_residual-in_err-change.ensures.1 in
    let less = c.loop-test.true in
    rw (p.1, p.2)
    (item_refused change_unique c.args.bytes.now c.loop.rest.now c.in_ok-count.count c.loop.all.items
    c.in_err-change.field-0.0 c.loop.invariant.so c.loop.invariant.word c.loop.invariant.each
    (omega (arith, less, c.loop.invariant.counted)) c.in_err-change.ensures.err)

pub returns-clause-ok : goal.returns-clause-ok
returns-clause-ok c =
    let end : c.loop.counter ≡ c.in_ok-count.count = omega arith in
    items_taken spelled_change IsProper c.args.bytes.now c.loop.rest.now c.in_ok-count.count
    c.loop.all.items c.loop.invariant.so c.loop.invariant.word c.loop.invariant.each
    (c.loop.invariant.counted ∙ end)
