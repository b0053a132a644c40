use Rattle.std.proofs.Common.{◌≡◌, ◌∙◌, arith}
use Rattle.std.proofs.lemmas.Result.{err_from_is_err_and}
use Rattle.plan_codec.proofs.Readings.{item_refused, items_taken}
use Rattle.plan_codec.proofs.lists.items_at.Goals as goal

pub returns-in_err-item-clause-err : goal.returns-in_err-item-clause-err
returns-in_err-item-clause-err g c =
    let p = err_from_is_err_and c.from_residual-in_err-item.result c.from_residual-in_err-item.ensures.1 in
    let less = c.loop-test.true in
    rw (p.1, p.2)
    (item_refused g.met.T.Readable.unique c.args.bytes.now c.loop.rest.now c.in_ok-count.count c.loop.all.items
    c.in_err-item.field-0.0 c.loop.invariant.so c.loop.invariant.word c.loop.invariant.each
    (omega (arith, less, c.loop.invariant.counted)) c.in_err-item.ensures.err)

pub returns-clause-ok : goal.returns-clause-ok
returns-clause-ok g c =
    let end : c.loop.counter ≡ c.in_ok-count.count = omega arith in
    items_taken g.T.Readable.spelled g.T.Readable.proper c.args.bytes.now c.loop.rest.now c.in_ok-count.count
    c.loop.all.items c.loop.invariant.so c.loop.invariant.word c.loop.invariant.each
    (c.loop.invariant.counted ∙ end)
