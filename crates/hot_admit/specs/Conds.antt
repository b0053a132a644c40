-- The values of a template's conditions, and which of its resources and outputs are wanted; or why there are none.
use Rattle.std.specs.Prelude.{◌≡◌, ℕ, List, [], ◌∷◌, Bool, true, false, Option, Some, None, map, unwrap_or, codes, ⊤}
use Rattle.std.specs.Option.{option_or}
use Rattle.heat_plan.specs.declared.conditions.Condition.{Condition}
use Rattle.heat_value.specs.Data.{Data, Members, no_members, member}
use Rattle.heat_value.specs.declared.path.Step.{Step}
use Rattle.heat_value.specs.declared.path.Step.TheVariants.{Key}
use Rattle.hot_admit.specs.Resources.{ResourceData, OutputData, conditions_in, resources_in, outputs_in}
use Rattle.hot_admit.specs.declared.conds.Conds.{Conds}
use Rattle.hot_admit.specs.declared.conds.Wanted.{Wanted}
use Rattle.hot_admit.specs.declared.fault.CondFault.{CondFault}
use Rattle.hot_admit.specs.declared.fault.CondFault.TheVariants.{C01, C02, Memory}
use Rattle.eval_words.specs.Conditions.{IsOnCycle, IsLeastOnCycle, IsFirstUnvalued, unvalued, values_of, flag_of}
use Rattle.eval_words.specs.Conditions.{unvalued_in}
use Rattle.hot_tree.specs.Readings.{entries}

-- the flag of an entry's `condition`, where these conditions have values; where there is none, true
abbrev pub held : Members → List Condition → Option Data → Option Bool
held params known None = Some true
held params known (Some d) = flag_of params known d

-- the `condition` holds
abbrev pub holds : Members → List Condition → Option Data → Bool
holds params known o = unwrap_or (held params known o) false

abbrev pub resource_wanted : Members → List Condition → ResourceData → Wanted
resource_wanted params known r = record { name = r.name; wanted = holds params known r.condition }

abbrev pub output_wanted : Members → List Condition → OutputData → Wanted
output_wanted params known o = record { name = o.name; wanted = holds params known o.condition }

abbrev pub conds_with : List Condition → Members → Members → Conds
conds_with known params template = record {
  conds = known;
  resources = map (resource_wanted params known) (resources_in template);
  outputs = map (output_wanted params known) (outputs_in template);
}

-- each condition's value, and for each resource and output whether it is wanted
abbrev pub conds_of : Members → Members → Conds
conds_of params template = conds_with (values_of params (conditions_in template)) params template

-- no condition is on a cycle, and each has a value
pub record HaveValues (params template : Members) : Type 0 where
  pub acyclic : (name : List ℕ) → ¬ IsOnCycle (conditions_in template) name
  pub valued : unvalued params (conditions_in template) (entries (codes "resources") template)
      (entries (codes "outputs") template) ≡ None

-- the conditions have values, which are these
pub record AreCondsOf (params template : Members) (c : Conds) : Type 0 where
  pub values : HaveValues params template
  pub made : c ≡ conds_of params template

-- the path of a named condition
abbrev pub condition_path : List ℕ → List Step
condition_path name = Key (codes "conditions") ∷ Key name ∷ []

-- the path of an entry's `condition`
abbrev pub entry_path : List ℕ → List ℕ → List Step
entry_path section name = Key section ∷ Key name ∷ Key (codes "condition") ∷ []

-- C01: the path of the least condition that is on a cycle
pub record IsCyclePath (template : Members) (path : List Step) : Type 0 where
  pub name : List ℕ
  pub least : IsLeastOnCycle (conditions_in template) name
  pub path_is : path ≡ condition_path name

-- C02: the path of the first expression without a value, where no condition is on a cycle
abbrev pub IsUnvaluedPath : Members → Members → List Step → Type 0
IsUnvaluedPath params template = IsFirstUnvalued params (conditions_in template) (entries (codes "resources") template)
    (entries (codes "outputs") template)

-- ---- the same, told section by section

-- of resources in byte order the first whose `condition` has no value
abbrev pub unvalued_resource : Members → List Condition → List ResourceData → Option (List Step)
unvalued_resource params known [] = None
unvalued_resource params known (r ∷ rs) = option_or
    (unvalued_in params known (entry_path (codes "resources") r.name) r.condition)
    (unvalued_resource params known rs)

-- of outputs the first whose `condition` has no value
abbrev pub unvalued_output : Members → List Condition → List OutputData → Option (List Step)
unvalued_output params known [] = None
unvalued_output params known (o ∷ os) = option_or
    (unvalued_in params known (entry_path (codes "outputs") o.name) o.condition)
    (unvalued_output params known os)

-- the flag that each condition gives, by its place, where these have values
abbrev pub flags_of : Members → List Condition → Members → List (Option Bool)
flags_of params known no_members = []
flags_of params known (member k d ms) = flag_of params known d ∷ flags_of params known ms

-- C02 of a section, or want of memory
abbrev pub IsUnvaluedFault : Option (List Step) → CondFault → Type 0
IsUnvaluedFault found (C01 p) = ⊥
IsUnvaluedFault found (C02 p) = found ≡ Some p
IsUnvaluedFault found Memory = ⊤

-- C01, or want of memory
abbrev pub IsCyclicFault : Members → CondFault → Type 0
IsCyclicFault conds (C01 p) = (name : List ℕ) × IsLeastOnCycle conds name × (p ≡ condition_path name)
IsCyclicFault conds (C02 p) = ⊥
IsCyclicFault conds Memory = ⊤

-- ---- faults

-- why there are none, or want of memory
abbrev pub IsCondFaultOf : Members → Members → CondFault → Type 0
IsCondFaultOf params template (C01 p) = IsCyclePath template p
IsCondFaultOf params template (C02 p) = IsUnvaluedPath params template p
IsCondFaultOf params template Memory = ⊤
