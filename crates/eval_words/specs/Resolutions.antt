-- The properties of an item: its property map evaluated with the facts of what it needs.
use Rattle.std.specs.Prelude.{ℕ, List, [], ◌∷◌, ◌++◌, codes, if◌then◌else◌}
use Rattle.heat_value.specs.Data.{Data, fields, Members}
use Rattle.heat_value.specs.declared.path.Step.{Step}
use Rattle.heat_value.specs.declared.path.Step.TheVariants.{Key}
use Rattle.heat_plan.specs.Plans.{PlanData}
use Rattle.heat_plan.specs.declared.facts.KnownFacts.{KnownFacts}
use Rattle.heat_plan.specs.declared.item.Item.{Item}
use Rattle.eval_words.specs.Evaluation.{evaluation, value_outcome, members_outcome}
use Rattle.eval_words.specs.Outcomes.{Outcome, Gives, Faults, max_levels, seen_from, is_result}
use Rattle.eval_words.specs.Scenes.{SceneData, scene_of}
use Rattle.eval_words.specs.declared.code.FaultCode.TheVariants.{F06}

-- a value, from no cost on
unfoldable pub eval : SceneData → Data → Outcome Data
eval scene d = value_outcome (evaluation scene) scene max_levels d 0

-- where an item's properties stand in its template
abbrev pub properties_path : List ℕ → List Step
properties_path name = Key (codes "resources") ∷ Key name ∷ Key (codes "properties") ∷ []

-- each property in byte order, from no cost on
abbrev pub properties : SceneData → Members → Outcome Members
properties scene ms = members_outcome (evaluation scene) scene max_levels ms 0

-- F06 where the whole map is too large
abbrev pub unless_large : Outcome Members → Outcome Members
unless_large (Gives ms spent) = if is_result (fields ms) then Gives ms spent else Faults F06 []
unless_large (Faults c p) = Faults c p

-- the item's properties with the facts that are known, or the first fault with its place in the template
unfoldable pub resolve : PlanData → Item → List KnownFacts → Outcome Members
resolve plan item known =
    seen_from (λ p. properties_path item.name ++ p) (unless_large (properties (scene_of plan known) item.props))
