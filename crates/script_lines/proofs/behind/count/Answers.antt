use Rattle.std.proofs.Common.{◌∙◌, sym, arith}
use Rattle.std.proofs.lemmas.Fmt.{decimal_injective}
use Rattle.script_lines.proofs.behind.count.Goals as goal

pub returns-then-count-gt-MOST_TURNS-clause-none : goal.returns-then-count-gt-MOST_TURNS-clause-none
returns-then-count-gt-MOST_TURNS-clause-none c _ n is writes =
    let here = c.in_ok-count.ensures.some in
    let same = decimal_injective n c.in_ok-count.count (omega (arith, is.1)) (omega (arith, here.0.1)) (writes ∙ sym here.1) in
    absurd (omega (arith, same, is.1, c.if-count-gt-MOST_TURNS.true))
