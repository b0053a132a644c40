use Rattle.std.proofs.Common.{refl, subst, arith}
use Rattle.row_table.specs.Links.{HasNext, IsNext}
use Rattle.row_table.proofs.Chains.{link_rises, goes_on, stops_past, stops, missing_by, there_by}
use Rattle.row_table.proofs.rows.Rows.head.Goals as goal

pub loop-next-smaller : goal.loop-next-smaller
loop-next-smaller g c = omega (
  arith,
  link_rises _ c.loop-next.last c.in-Some.next (subst (λ o. IsNext o c.in-Some.next) c.get.ensures c.in-Some.ensures.some),
  c.in-Some.ensures.range,
)

pub loop-next-preserved : goal.loop-next-preserved
loop-next-preserved g c =
    goes_on _ c.args.no c.loop-next.last c.in-Some.next (subst (λ o. IsNext o c.in-Some.next) c.get.ensures c.in-Some.ensures.some)
    (there_by _ c.get-in-Some.result _ c.is_none.result c.is_none.ensures c.get-in-Some.ensures c.if-is_none.false) c.loop-next.invariant

pub returns-then-is_none : goal.returns-then-is_none
returns-then-is_none g c =
    stops_past _ c.args.no c.loop-next.last c.in-Some.next (subst (λ o. IsNext o c.in-Some.next) c.get.ensures c.in-Some.ensures.some)
    (missing_by _ c.get-in-Some.result _ c.is_none.result c.is_none.ensures c.get-in-Some.ensures c.if-is_none.true) c.loop-next.invariant

pub returns : goal.returns
returns g c =
    stops _ c.args.no c.loop-next.last (subst (λ o. HasNext o → ⊥) c.get.ensures (c.in_default.ensures.none refl)) c.loop-next.invariant
