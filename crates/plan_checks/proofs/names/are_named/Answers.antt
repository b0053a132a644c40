use Rattle.std.proofs.Common.{Contains}
use Rattle.std.proofs.lemmas.Bool.{both_ways}
use Rattle.heat_plan.specs.Plans.{names_of}
use Rattle.plan_checks.proofs.Searches.{not_all, one_further}
use Rattle.plan_checks.proofs.names.are_named.Goals as goal

pub returns-then-not-is_named : goal.returns-then-not-is_named
returns-then-not-is_named c = (
  λ f. cc,
  λ each. absurd (not_all (Contains (names_of c.args.items.now)) c.args.names.now c.loop-name.name-index c.name-item.result
      c.loop-name-test.true c.name-item.is
      (λ named. both_ways c.is_named.result c.if-not-is_named.true (c.is_named.ensures.1 named)) each),
)

pub loop-name-preserved : goal.loop-name-preserved
loop-name-preserved c =
    one_further (Contains (names_of c.args.items.now)) c.args.names.now c.loop-name.name-index c.name-item.result
    c.loop-name-test.true c.name-item.is c.loop-name.invariant (c.is_named.ensures.0 c.if-not-is_named.false)
