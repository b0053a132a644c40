-- What is in its form faults by no form.
use Rattle.std.specs.Prelude.{◌≡◌, ◌≤◌, ◌⊎◌, ◌++◌, ℕ, List, [], Bool, true}
use Rattle.heat_plan.specs.Plans.{PlanData}
use Rattle.heat_plan.specs.declared.facts.KnownFacts.{KnownFacts}
use Rattle.heat_plan.specs.declared.item.Item.{Item}
use Rattle.heat_value.specs.Data.{Data, flag, fields, depth}
use Rattle.heat_value.specs.declared.path.Step.{Step}
use Rattle.eval_words.specs.Evaluation.{evaluation, condition_outcome}
use Rattle.eval_words.specs.Outcomes.{Outcome, Gives, Faults, max_levels}
use Rattle.eval_words.specs.Resolutions.{eval, resolve, properties_path}
use Rattle.eval_words.specs.Scenes.{SceneData, scene_of}
use Rattle.eval_words.specs.declared.code.FaultCode.{FaultCode}
use Rattle.eval_words.specs.declared.code.FaultCode.TheVariants.{F06}
use Rattle.hot_functions.specs.Forms.{is_condition}
use Rattle.template_laws.specs.Faulting.{MayFault}
use Rattle.template_laws.specs.Formed.{IsFormed}
use Rattle.template_laws.specs.Roles.{as_value, as_parts, as_condition}

-- a value in its form that nests at most 64 deep
abbrev pub ValuesFaultByNoForm : Type 0
ValuesFaultByNoForm = (scene : SceneData) (d : Data) (c : FaultCode) (path : List Step) → depth d ≤ 64
    → IsFormed scene as_value d → eval scene d ≡ Faults c path → MayFault as_value d c path

-- a condition comes to a flag, or to such a fault
abbrev pub IsFlagOrFault : Data → Outcome Data → Type 0
IsFlagOrFault d (Gives v spent) = (b : Bool) × (v ≡ flag b)
IsFlagOrFault d (Faults c path) = MayFault as_condition d c path

-- a condition expression in its form that nests at most 64 deep
abbrev pub ConditionsFaultByNoForm : Type 0
ConditionsFaultByNoForm = (scene : SceneData) (d : Data) (spent : ℕ) → depth d ≤ 64 → IsFormed scene as_condition d
    → is_condition d ≡ true → IsFlagOrFault d (condition_outcome (evaluation scene) scene max_levels d spent)

-- the map of properties is too large, or one of them is at such a fault
abbrev pub IsFaultUnder : Item → FaultCode → List Step → Type 0
IsFaultUnder item c path = ((path ≡ []) × (c ≡ F06)) ⊎ MayFault as_parts (fields item.props) c path

-- the same, seen from the template
abbrev pub IsPropertyFault : Item → FaultCode → List Step → Type 0
IsPropertyFault item c path =
    (rest : List Step) × (path ≡ properties_path item.name ++ rest) × IsFaultUnder item c rest

-- an item's properties in their form that nest at most 64 deep
abbrev pub PropertiesFaultByNoForm : Type 0
PropertiesFaultByNoForm = (plan : PlanData) (item : Item) (known : List KnownFacts) (c : FaultCode) (path : List Step)
    → depth (fields item.props) ≤ 64 → IsFormed (scene_of plan known) as_parts (fields item.props) → resolve plan item known ≡ Faults c path
    → IsPropertyFault item c path
