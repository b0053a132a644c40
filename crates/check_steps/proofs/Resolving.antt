-- What was resolved is what the item resolves to with its node's inputs.
use Rattle.std.proofs.Common.{List, subst, sym, ◌∙◌, ◌≡◌}
use Rattle.std.specs.Prelude.{ℕ}
use Rattle.heat_value.specs.Data.{Members}
use Rattle.heat_plan.specs.Plans.{PlanData}
use Rattle.heat_plan.specs.declared.facts.KnownFacts.{KnownFacts}
use Rattle.heat_plan.specs.declared.item.Item.{Item}
use Rattle.sync_points.specs.declared.point.Input.{Input}
use Rattle.hot_resolve.specs.Resolutions.{resolved_of}
use Rattle.eval_words.specs.Resolve.{Resolved, resolve}
use Rattle.hot_resolve.specs.declared.resolving.Resolution.{Resolution}
use Rattle.step_relation.specs.Inputs.{AreKnown}
use Rattle.check_steps.specs.Prepares.{IsBeginPrepared, IsGivenFor, IsPrepared, Resolves}
use Rattle.check_steps.specs.declared.looks.BeginWork.{BeginWork}
use Rattle.check_steps.specs.declared.looks.Work.TheVariants as work
use Rattle.check_steps.specs.declared.looks.Work.{Work}
use Rattle.check_steps.specs.declared.prepared.Prepared.{Prepared}

pub resolves : (plan : PlanData) (item : Item) (inputs : List Input) (needs : List (List ℕ))
    (known given : List KnownFacts) (r : Resolution) (result : Resolved)
    → needs ≡ item.needs → AreKnown inputs needs known → given ≡ known
    → resolved_of r ≡ resolve plan item given → resolved_of r ≡ result
    → Resolves plan item inputs result
resolves plan item inputs needs known given r result needs_are known_are given_is resolved is = record {
  known = known;
  known_are = subst (λ (ns : List (List ℕ)). AreKnown inputs ns known) needs_are known_are;
  result_is = subst (λ (ks : List KnownFacts). resolve plan item ks ≡ result) given_is (sym resolved ∙ is);
}

-- the same plan and inputs are given the same
pub given_over : (p q : PlanData) (item : Item) (xs ys : List Input) (props : Members) (it : Prepared) → p ≡ q
    → xs ≡ ys → IsGivenFor p item xs props it → IsGivenFor q item ys props it
given_over p q item xs ys props it plans inputs given =
    subst (λ (z : PlanData). IsGivenFor z item ys props it) plans
    (subst (λ (zs : List Input). IsGivenFor p item zs props it) inputs given)

pub prepared_as : (w : Work) (v : BeginWork) (it : Prepared) → w ≡ work.Begin v → IsBeginPrepared v it → IsPrepared w it
prepared_as w v it is given = subst (λ (x : Work). IsPrepared x it) (sym is) given
