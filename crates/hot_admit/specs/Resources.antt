-- What a template says of its resources and outputs, part by part.
use Rattle.std.specs.Prelude.{ℕ, List, [], ◌∷◌, Option, option_map, map, codes}
use Rattle.heat_value.specs.Data.{Data, Members, no_members, member, lookup}
use Rattle.heat_value.specs.Meaning.{data_of}
use Rattle.hot_forms.specs.Shapes.{members_in}
use Rattle.hot_tree.specs.Readings.{object_in, text_or, or_null, entries}
use Rattle.hot_tree.specs.declared.out_part.Out.{Out}
use Rattle.hot_tree.specs.declared.res.Res.{Res}

-- a resource; absent and null objects are empty, what it depends on is as written, null where absent
pub record ResourceData : Type 0 where
  pub name : List ℕ
  pub kind : List ℕ
  pub condition : Option Data
  pub properties : Members
  pub depends_on : Data
  pub policy : List ℕ
  pub update_policy : Members
  pub external_id : Option Data

abbrev pub resource_with : List ℕ → Members → ResourceData
resource_with name ms = record {
  name = name;
  kind = text_or [] (lookup (codes "type") ms);
  condition = lookup (codes "condition") ms;
  properties = object_in (lookup (codes "properties") ms);
  depends_on = or_null (lookup (codes "depends_on") ms);
  policy = text_or (codes "Delete") (lookup (codes "deletion_policy") ms);
  update_policy = object_in (lookup (codes "update_policy") ms);
  external_id = lookup (codes "external_id") ms;
}

abbrev pub resources_among : Members → List ResourceData
resources_among no_members = []
resources_among (member k d ms) = resource_with k (members_in d) ∷ resources_among ms

-- the resources of a template, in byte order of their names
abbrev pub resources_in : Members → List ResourceData
resources_in template = resources_among (entries (codes "resources") template)

abbrev pub names_of : List ResourceData → List (List ℕ)
names_of resources = map (λ (r : ResourceData). r.name) resources

-- an output: its value, null where it has none, and its condition
pub record OutputData : Type 0 where
  pub name : List ℕ
  pub value : Data
  pub condition : Option Data

abbrev pub output_with : List ℕ → Members → OutputData
output_with name ms = record {
  name = name;
  value = or_null (lookup (codes "value") ms);
  condition = lookup (codes "condition") ms;
}

abbrev pub outputs_among : Members → List OutputData
outputs_among no_members = []
outputs_among (member k d ms) = output_with k (members_in d) ∷ outputs_among ms

-- the outputs of a template, in byte order of their names
abbrev pub outputs_in : Members → List OutputData
outputs_in template = outputs_among (entries (codes "outputs") template)

-- the named conditions of a template
abbrev pub conditions_in : Members → Members
conditions_in template = entries (codes "conditions") template

-- ---- the same of a template's parts by type

abbrev pub resource_data : Res → ResourceData
resource_data r = record {
  name = r.name;
  kind = r.kind;
  condition = option_map (λ v. data_of v) r.cond;
  properties = r.props;
  depends_on = data_of r.depends_on;
  policy = r.policy;
  update_policy = r.update_policy;
  external_id = option_map (λ v. data_of v) r.external_id;
}

abbrev pub resources_data : List Res → List ResourceData
resources_data rs = map (λ r. resource_data r) rs

abbrev pub output_data : Out → OutputData
output_data o = record { name = o.name; value = data_of o.value; condition = option_map (λ v. data_of v) o.cond }

abbrev pub outputs_data : List Out → List OutputData
outputs_data os = map (λ o. output_data o) os
