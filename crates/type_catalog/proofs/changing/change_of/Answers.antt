use Rattle.std.proofs.Common.{refl, sym}
use Rattle.std.proofs.lemmas.Bool.{both_ways}
use Rattle.type_catalog.specs.Changes.{in_place, replace, same}
use Rattle.type_catalog.proofs.ChangeLemmas.{both_soft}
use Rattle.type_catalog.proofs.changing.change_of.Goals as goal

pub returns-then-equals : goal.returns-then-equals
returns-then-equals c = same (c.equals.ensures.0 c.if-equals.true)

pub returns-in-Some : goal.returns-in-Some
returns-in-Some c =
    let hard = rw (c.in-Some.is, c.as_props.ensures.value, c.as_props-2.ensures.value) at c.first_hard.ensures.some in
    replace c.in-Some.field-0.now hard.0 hard.1

pub returns-in-Some-first_hard : goal.returns-in-Some-first_hard
returns-in-Some-first_hard c =
    let hard = rw (c.in-Some-first_hard.is, c.as_props-3.ensures.value, c.as_props-4.ensures.value) at c.first_hard-2.ensures.some in
    replace c.in-Some-first_hard.field-0.now (λ e. hard.0 (sym e)) hard.1

pub returns-in-None : goal.returns-in-None
returns-in-None c =
    let first = rw (c.in_default.is, c.as_props.ensures.value, c.as_props-2.ensures.value) at c.first_hard.ensures.none in
    let second = rw (c.in-None.is, c.as_props-3.ensures.value, c.as_props-4.ensures.value) at c.first_hard-2.ensures.none in
    in_place (λ e. both_ways _ c.if-equals.false (c.equals.ensures.1 e)) (both_soft _ _ _ (first refl) (second refl))
