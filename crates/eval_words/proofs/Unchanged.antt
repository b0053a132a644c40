-- Properties that evaluation leaves as they are.
use Rattle.std.proofs.Common.{List, ap, refl, true, ℕ, ◌++◌, ◌≡◌, ◌∙◌}
use Rattle.heat_value.specs.Data.{Members, fields}
use Rattle.heat_plan.specs.Plans.{PlanData}
use Rattle.heat_plan.specs.declared.facts.KnownFacts.{KnownFacts}
use Rattle.heat_plan.specs.declared.item.Item.{Item}
use Rattle.eval_words.specs.Outcomes.{Gives, Outcome, is_result, seen_from}
use Rattle.eval_words.specs.Resolutions.{properties, properties_path, unless_large, resolve as outcome}
use Rattle.eval_words.specs.Scenes.{scene_of}
use Rattle.eval_words.specs.Resolve.{Props, Resolved, of_outcome, resolve}

small : (props : Members) (spent : ℕ) → is_result (fields props) ≡ true
    → unless_large (Gives props spent) ≡ Gives props spent
small props spent is = rw is refl

-- the item resolves to its own properties, where each comes to itself and the map is small enough
pub unchanged : (plan : PlanData) (item : Item) (known : List KnownFacts) (spent : ℕ)
    → properties (scene_of plan known) item.props ≡ Gives item.props spent → is_result (fields item.props) ≡ true
    → resolve plan item known ≡ Props item.props
unfolding resolve outcome
unchanged plan item known spent same is =
    ap (λ (o : Outcome Members). of_outcome (seen_from (λ p. properties_path item.name ++ p) o))
    (ap unless_large same ∙ small item.props spent is)
