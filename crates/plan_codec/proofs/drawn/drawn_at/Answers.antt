use Rattle.std.proofs.lemmas.Bool.{both_ways}
use Rattle.std.proofs.lemmas.Result.{err_from_is_err_and}
use Rattle.heat_plan.specs.Numbers.{IsNumber}
use Rattle.plan_codec.specs.Numbers.{spelled_number, IsWord}
use Rattle.plan_codec.specs.Laws.{number_unique, drawn_is_word}
use Rattle.plan_codec.proofs.Readings.{refused_more, taken_more, not_taken}
use Rattle.plan_codec.proofs.drawn.drawn_at.Goals as goal

pub returns-in_err-number-clause-err : goal.returns-in_err-number-clause-err
returns-in_err-number-clause-err c =
    let p = err_from_is_err_and c.from_residual.result c.from_residual.ensures.1 in
    rw (p.1, p.2)
    (refused_more spelled_number IsWord IsNumber c.args.bytes.now c.in_err-number.field-0.0 drawn_is_word
    c.in_err-number.ensures.err)

pub returns-then-not-is_drawn-clause-err : goal.returns-then-not-is_drawn-clause-err
returns-then-not-is_drawn-clause-err c =
    not_taken c.args.bytes.now c.in_ok-number.rest.now c.in_ok-number.number number_unique drawn_is_word
    c.in_ok-number.ensures.ok
    (λ h. both_ways c.is_drawn.result c.if-not-is_drawn.true (c.is_drawn.ensures.1 h))

pub returns-clause-ok : goal.returns-clause-ok
returns-clause-ok c = taken_more spelled_number IsWord IsNumber c.args.bytes.now c.in_ok-number.rest.now
    c.in_ok-number.number (c.is_drawn.ensures.0 c.if-not-is_drawn.false) c.in_ok-number.ensures.ok
