use Rattle.std.proofs.Common.{◌≡◌, ◌≤◌, ◌∙◌, sym, arith}
use Rattle.std.proofs.lemmas.Fmt.{decimal_injective}
use Rattle.converge_call.proofs.chosen.count_of.Goals as goal

pub returns-then-count-from : goal.returns-then-count-from
returns-then-count-from c n is =
    let few : n ≤ 64 = is.few in
    let here = c.in_ok-count.ensures.some in
    let same : n ≡ c.in_ok-count.count = decimal_injective n c.in_ok-count.count (omega (arith, few))
    (omega (arith, here.0.1)) (is.digits ∙ sym here.1) in
    absurd (omega (arith, same, few, c.if-count-from.true))
