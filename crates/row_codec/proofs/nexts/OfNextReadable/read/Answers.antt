use Rattle.std.proofs.Common.{◌≡◌, arith}
use Rattle.std.proofs.lemmas.Bool.{both_ways}
use Rattle.std.proofs.lemmas.Result.{err_from_is_err_and}
use Rattle.plan_codec.specs.Numbers.{spelled_number, IsWord}
use Rattle.plan_codec.specs.Laws.{number_unique}
use Rattle.plan_codec.proofs.Readings.{refused_more, taken_more, not_taken}
use Rattle.row_codec.specs.Words.{IsNext}
use Rattle.row_codec.specs.WordLaws.{next_is_word}
use Rattle.row_codec.proofs.nexts.OfNextReadable.read.Goals as goal

pub returns-in_err-number-clause-err : goal.returns-in_err-number-clause-err
returns-in_err-number-clause-err c =
    let p = err_from_is_err_and c.from_residual.result c.from_residual.ensures.1 in
    rw (p.1, p.2)
    (refused_more spelled_number IsWord IsNext c.args.bytes.now c.in_err-number.field-0.0 next_is_word
    c.in_err-number.ensures.err)

pub returns-then-not-is_next-clause-err : goal.returns-then-not-is_next-clause-err
returns-then-not-is_next-clause-err c =
    not_taken c.args.bytes.now c.in_ok-number.rest.now c.in_ok-number.number number_unique next_is_word
    c.in_ok-number.ensures.ok
    (λ h. both_ways c.is_next.result c.if-not-is_next.true (c.is_next.ensures.1 h))

pub returns-clause-ok : goal.returns-clause-ok
returns-clause-ok c =
    let next = c.is_next.ensures.0 c.if-not-is_next.false in
    let same : c.after-next.result ≡ c.in_ok-number.number = omega (arith, c.after-next.ensures, c.first.ensures, next.0) in
    rw same (taken_more spelled_number IsWord IsNext c.args.bytes.now c.in_ok-number.rest.now c.in_ok-number.number next
    c.in_ok-number.ensures.ok)
