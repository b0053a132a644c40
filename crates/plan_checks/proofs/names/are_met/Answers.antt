use Rattle.std.proofs.Common.{All, Contains, refl, arith}
use Rattle.std.proofs.lemmas.Bool.{both_ways}
use Rattle.heat_plan.specs.Plans.{names_of}
use Rattle.heat_plan.specs.declared.item.Item.{Item}
use Rattle.plan_checks.proofs.Searches.{not_all, one_further}
use Rattle.plan_checks.proofs.names.are_met.Goals as goal

pub returns-then-not-are_named : goal.returns-then-not-are_named
returns-then-not-are_named c = (
  λ f. cc,
  λ met. absurd (not_all (λ (i : Item). All (Contains (names_of c.args.items.now)) i.needs) c.args.items.now
      c.loop-item.item-index c.item-item.result c.loop-item-test.true c.item-item.is
      (λ named. both_ways c.are_named.result c.if-not-are_named.true
      (c.are_named.ensures.1 (rw c.as_slice.ensures.value named))) met),
)

pub loop-item-preserved : goal.loop-item-preserved
loop-item-preserved c =
    one_further (λ (i : Item). All (Contains (names_of c.args.items.now)) i.needs) c.args.items.now
    c.loop-item.item-index c.item-item.result c.loop-item-test.true c.item-item.is c.loop-item.invariant
    (rw c.as_slice.ensures.value at (c.are_named.ensures.0 c.if-not-are_named.false))

pub returns : goal.returns
returns c = (λ _ k d lt. c.loop-item.invariant k d (omega (arith, lt, c.loop-item-test.false)), λ _. refl)
