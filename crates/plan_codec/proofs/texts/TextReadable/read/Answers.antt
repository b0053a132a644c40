use Rattle.std.proofs.lemmas.Result.{err_from_is_err_and}
use Rattle.plan_codec.specs.Numbers.{spelled_bytes, IsShort, IsText}
use Rattle.plan_codec.specs.Laws.{bytes_unique, text_is_short}
use Rattle.plan_codec.proofs.Readings.{refused_more, taken_more, not_taken_if}
use Rattle.plan_codec.proofs.texts.TextReadable.read.Goals as goal

pub returns-in_err-front-clause-err : goal.returns-in_err-front-clause-err
returns-in_err-front-clause-err c =
    let p = err_from_is_err_and c.from_residual.result c.from_residual.ensures.1 in
    rw (p.1, p.2)
    (refused_more spelled_bytes IsShort IsText c.args.bytes.now c.in_err-front.field-0.0 text_is_short
    c.in_err-front.ensures.err)

pub returns-in_err-text-clause-err : goal.returns-in_err-text-clause-err
returns-in_err-text-clause-err c =
    let p = err_from_is_err_and c.from_residual-in_err-text.result c.from_residual-in_err-text.ensures.1 in
    rw (p.1, p.2)
    (not_taken_if IsText c.args.bytes.now c.in_ok-front.rest.now c.in_ok-front.front.now c.in_err-text.field-0.0
    bytes_unique text_is_short c.in_ok-front.ensures.ok (λ same p. c.in_err-text.ensures.err same p.1))

pub returns-clause-ok : goal.returns-clause-ok
returns-clause-ok c = rw c.in_ok-text.ensures.value
    (taken_more spelled_bytes IsShort IsText c.args.bytes.now c.in_ok-front.rest.now c.in_ok-front.front.now
    (c.in_ok-front.ensures.ok.fits, c.in_ok-text.ensures.ok) c.in_ok-front.ensures.ok)
