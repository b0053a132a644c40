use Rattle.std.proofs.Common.{◌∙◌, List, ℕ, ap, sym, nat_eq}
use Rattle.std.proofs.lemmas.List.{take_rest}
use Rattle.std.specs.List.{starts_with}
use Rattle.hot_env.proofs.Parts.{not-here}
use Rattle.hot_env.proofs.checking.has_part.Goals as goal

pub loop-i-preserved : goal.loop-i-preserved
loop-i-preserved c =
    let text : List ℕ = c.args.text.now in
    c.loop-i.invariant
    ∙ not-here c.args.part.now text c.loop-i.i c.loop-i-test.true
    (ap (λ (s : List ℕ). starts_with nat_eq s c.args.part.now) (sym (take_rest text c.loop-i.i))
    ∙ sym c.starts_with.ensures.value ∙ c.if-starts_with.false)
