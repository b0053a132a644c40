-- The properties that an item of a plan gets, from the facts of what it needs.
use Rattle.std.specs.Prelude.{ℕ, List}
use Rattle.heat_value.specs.Data.{Members}
use Rattle.heat_value.specs.declared.path.Step.{Step}
use Rattle.heat_plan.specs.Plans.{PlanData}
use Rattle.heat_plan.specs.declared.item.Item.{Item}
use Rattle.heat_plan.specs.declared.facts.KnownFacts.{KnownFacts}
use Rattle.eval_words.specs.Codes.{code_text}
use Rattle.eval_words.specs.Outcomes.{Faults, Gives, Outcome}
use Rattle.eval_words.specs.Resolutions.{resolve as outcome}

-- a property map, or a fault's code and path
pub data Resolved : Type 0 where
  Props : (props : Members) → Resolved
  Fault : (code : List ℕ) → (path : List Step) → Resolved

-- the map that an evaluation made, whatever it cost; or its fault, with the code's text
abbrev pub of_outcome : Outcome Members → Resolved
of_outcome (Gives props spent) = Props props
of_outcome (Faults code path) = Fault (code_text code) path

-- what the item's properties come to with these facts, and nothing else that is known
unfoldable pub resolve : PlanData → Item → List KnownFacts → Resolved
resolve plan item known = of_outcome (outcome plan item known)
