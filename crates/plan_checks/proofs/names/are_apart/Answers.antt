use Rattle.std.proofs.Common.{ℕ, List, Contains, refl, arith}
use Rattle.std.proofs.lemmas.Bool.{both_ways}
use Rattle.heat_plan.specs.Plans.{names_of}
use Rattle.plan_checks.proofs.Searches.{not_all, one_further}
use Rattle.plan_checks.proofs.names.are_apart.Goals as goal

pub returns-then-is_named : goal.returns-then-is_named
returns-then-is_named c = (
  λ f. cc,
  λ apart. absurd (not_all (λ (n : List ℕ). ¬ Contains (names_of c.args.items.now) n) c.args.names.now
      c.loop-name.name-index c.name-item.result c.loop-name-test.true c.name-item.is
      (λ none. none (c.is_named.ensures.0 c.if-is_named.true)) apart),
)

pub loop-name-preserved : goal.loop-name-preserved
loop-name-preserved c =
    one_further (λ (n : List ℕ). ¬ Contains (names_of c.args.items.now) n) c.args.names.now c.loop-name.name-index
    c.name-item.result c.loop-name-test.true c.name-item.is c.loop-name.invariant
    (λ named. both_ways c.is_named.result c.if-is_named.false (c.is_named.ensures.1 named))

pub returns : goal.returns
returns c = (λ _ k d lt. c.loop-name.invariant k d (omega (arith, lt, c.loop-name-test.false)), λ _. refl)
