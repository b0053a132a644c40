use Rattle.std.proofs.Common.{sym, ◌∙◌}
use Rattle.type_catalog.proofs.Softs.{ends, goes_on}
use Rattle.type_catalog.proofs.kind.KindDef.has_softs.Goals as goal

pub returns-in_default : goal.returns-in_default
returns-in_default c = ends c.as_slice-prop-items.result.now c.loop-prop.prop-index c.prop-item.result
    c.loop-prop-test.true c.prop-item.is c.if-not-prop.false c.in-Some.ensures.cases.0 c.loop-prop.invariant
    (sym c.eq.ensures ∙ c.if-eq.false)

pub loop-prop-preserved : goal.loop-prop-preserved
loop-prop-preserved c = goes_on c.as_slice-prop-items.result.now c.loop-prop.prop-index c.prop-item.result
    c.loop-prop-test.true c.prop-item.is c.if-not-prop.false c.in-Some.ensures.cases.0 c.loop-prop.invariant
    (sym c.eq.ensures ∙ c.if-eq.true)
