-- What is in its form faults by no form: values, conditions, an item's properties.
use Rattle.std.proofs.Common.{◌≡◌, ◌++◌, List, [], Bool, true, false, refl, subst, inl, inr, arith}
use Rattle.std.proofs.Common.{if◌then◌else◌}
use Rattle.std.specs.Prelude.{⊤}
use Rattle.heat_plan.specs.declared.item.Item.{Item}
use Rattle.heat_value.specs.Data.{Data, fields, Members}
use Rattle.heat_value.specs.declared.path.Step.{Step}
use Rattle.heat_value.specs.declared.path.Step.TheVariants.{Key}
use Rattle.eval_words.specs.Evaluation.{evaluation, condition_outcome}
use Rattle.eval_words.specs.Outcomes.{Outcome, Gives, Faults, max_levels, seen_from, is_result}
use Rattle.eval_words.specs.Resolutions.{eval, resolve, properties, properties_path, unless_large}
use Rattle.eval_words.specs.Scenes.{scene_of}
use Rattle.eval_words.specs.declared.code.FaultCode.{FaultCode}
use Rattle.eval_words.specs.declared.code.FaultCode.TheVariants.{F06}
use Rattle.template_laws.specs.Faulting.{MayFault}
use Rattle.template_laws.specs.Faults.{ConditionsFaultByNoForm, IsPropertyFault, IsFlagOrFault, PropertiesFaultByNoForm}
use Rattle.template_laws.specs.Faults.{ValuesFaultByNoForm}
use Rattle.template_laws.specs.Roles.{as_value, as_parts, as_condition}
use Rattle.template_laws.proofs.Codes.{IsFlag}
use Rattle.template_laws.proofs.Formal.{value_holds, members_as_values, members_hold, condition_holds}
use Rattle.template_laws.proofs.Holding.{Holds, deeper}
use Rattle.template_laws.proofs.Likeness.{KeepsText}

pub values_law : ValuesFaultByNoForm
unfolding eval
values_law scene d c path deep formed is =
    subst (Holds (KeepsText d) (MayFault as_value d)) is
    (value_holds scene (evaluation scene) max_levels d (omega (arith, deep)) formed 0)

pub conditions_law : ConditionsFaultByNoForm
conditions_law scene d spent deep formed is =
    by (condition_outcome (evaluation scene) scene max_levels d spent)
    (condition_holds scene (evaluation scene) max_levels d (omega (arith, deep)) is formed spent)
  where
    by : (o : Outcome Data) → Holds IsFlag (MayFault as_condition d) o → IsFlagOrFault d o
    by (Gives v n) holds = holds
    by (Faults c path) holds = holds

-- a fault of a map of properties, seen from the template
module _ (item : Item) (c : FaultCode) (path : List Step) where
  seen : (o : Outcome Members) → Holds (λ v. ⊤) (MayFault as_parts (fields item.props)) o
      → seen_from (λ p. properties_path item.name ++ p) (unless_large o) ≡ Faults c path → IsPropertyFault item c path
  seen (Gives ms n) holds is = by (is_result (fields ms)) is
    where
      by : (b : Bool) → seen_from (λ p. properties_path item.name ++ p) (if b then Gives ms n else Faults F06 [])
          ≡ Faults c path → IsPropertyFault item c path
      by true is = cc
      by false is = ([], cc, inl (refl, cc))
  seen (Faults e p) holds is = (p, cc, inr (subst (λ x. MayFault as_parts (fields item.props) x p) same holds))
    where
      same : e ≡ c
      same = cc

pub properties_law : PropertiesFaultByNoForm
unfolding resolve
properties_law plan item known c path deep formed is =
    seen item c path (properties (scene_of plan known) item.props)
    (members_hold (scene_of plan known) (evaluation (scene_of plan known)) max_levels as_parts (fields item.props) item.props
    (omega (arith, deep))
    (members_as_values (scene_of plan known) (evaluation (scene_of plan known)) _ item.props formed.1) (λ k e within.
    deeper as_parts (fields item.props) (Key k) as_value e (within, refl)) 0) is
