-- The plan of a template with its bound parameters, the files beside it, and the kinds that stand.
use Rattle.std.specs.Prelude.{◌≤◌, List, [], ◌∷◌, Some, All, map, if◌then◌else◌}
use Rattle.heat_plan.specs.Plans.{PlanData}
use Rattle.heat_plan.specs.declared.item.Item.{Item}
use Rattle.heat_plan.specs.declared.conditions.Condition.{Condition}
use Rattle.heat_plan.specs.declared.files.File.{File}
use Rattle.heat_plan.specs.declared.plan.Output.{Output}
use Rattle.heat_value.specs.Data.{null, Members, no_members, member, depth}
use Rattle.hot_admit.specs.Basis.{BasisData}
use Rattle.hot_admit.specs.Conds.{holds}
use Rattle.hot_admit.specs.Items.{wanted_among, absent_among, items_of}
use Rattle.hot_admit.specs.Resources.{OutputData, conditions_in, resources_in, outputs_in}
use Rattle.hot_admit.specs.declared.conds.Wanted.{Wanted}
use Rattle.eval_words.specs.Conditions.{values_of}
use Rattle.hot_tree.specs.Readings.{text_or}
use Rattle.type_catalog.specs.declared.kind.KindDef.{KindDef}

-- what is given with a template: its bound parameters, the files of its body, and the kinds that stand
pub record Given : Type 0 where
  pub params : Members
  pub files : Members
  pub kinds : List KindDef

-- what the names in the template may stand for
abbrev pub basis_of : Members → Given → BasisData
basis_of template given = record { resources = resources_in template; files = given.files; kinds = given.kinds }

-- an output, null where its condition doesn't hold
abbrev pub output_of : Members → List Condition → OutputData → Output
output_of params known o = record { name = o.name; value = if holds params known o.condition then o.value else null }

-- the outputs, by marks, one for each
abbrev pub outputs_marked : List OutputData → List Wanted → List Output
outputs_marked [] ws = []
outputs_marked (o ∷ os) [] = []
outputs_marked (o ∷ os) (w ∷ ws) =
    record { name = o.name; value = if w.wanted then o.value else null } ∷ outputs_marked os ws

-- each value nests at most 64 deep
abbrev pub AreShallow : List OutputData → Type 0
AreShallow outputs = All (λ (o : OutputData). depth o.value ≤ 64) outputs

-- files and their texts
abbrev pub files_of : Members → List File
files_of no_members = []
files_of (member k d ms) = record { name = k; content = text_or [] (Some d) } ∷ files_of ms

-- the items of a template, where these conditions have values
abbrev pub items_where : List Condition → Members → Given → List Item
items_where known template given =
    items_of (basis_of template given) (wanted_among given.params known (resources_in template))

abbrev pub plan_where : List Condition → Members → Given → PlanData
plan_where known template given = record {
  items = items_where known template given;
  outputs = map (output_of given.params known) (outputs_in template);
  params = given.params;
  conds = known;
  files = files_of given.files;
  absent = absent_among given.params known (resources_in template);
}

-- the values of the template's conditions
abbrev pub values_in : Members → Given → List Condition
values_in template given = values_of given.params (conditions_in template)

-- the items of what is wanted
abbrev pub items_in : Members → Given → List Item
items_in template given = items_where (values_in template given) template given

-- these items; the outputs that are wanted, the others null; parameters, conditions with their values, files as given;
-- and the names of what isn't wanted
abbrev pub plan_in : Members → Given → PlanData
plan_in template given = plan_where (values_in template given) template given
