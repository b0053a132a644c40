-- That plans and what they are made of have one spelling each.
use Rattle.std.specs.Prelude.{◌≡◌, ℕ, List, ◌++◌, refl}
use Rattle.heat_plan.specs.Names.{IsResName}
use Rattle.heat_plan.specs.Plans.{PlanData}
use Rattle.heat_plan.specs.declared.item.Policy.{Policy}
use Rattle.heat_plan.specs.declared.item.Policy.TheVariants.{Delete, Retain}
use Rattle.plan_codec.specs.Spellings.{IsUnique, Regroups}
use Rattle.plan_codec.specs.Numbers.{spelled_bytes, spelled_flag, IsText, IsAny}
use Rattle.plan_codec.specs.Parts.{spelled_pair, AreBoth, spelled_list, AreAll}
use Rattle.plan_codec.specs.Values.{spelled_value, spelled_fields, IsWithin}
use Rattle.plan_codec.specs.Plans.{IsProperties, IsParameters, IsProperNeeds, spelled_policy, IsPolicy}
use Rattle.plan_codec.specs.Plans.{spelled_kind, IsProperKind, spelled_facts, IsProperFacts, spelled_item, IsProperItem}
use Rattle.plan_codec.specs.Plans.{spelled_output, IsProperOutput, spelled_condition, IsProperCondition, spelled_file, IsProperFile}
use Rattle.plan_codec.specs.Plans.{spelled_plan, IsProperPlan}
use Rattle.plan_codec.specs.Laws.{narrowed, flag_unique, text_unique, resource_name_unique, pair_unique, list_unique, regrouped_unique}
use Rattle.plan_codec.specs.ValueLaws.{fields_unique, within_unique}

pub properties_unique : IsUnique spelled_fields IsProperties
properties_unique = narrowed fields_unique (λ ms p. p.0)

pub parameters_unique : IsUnique spelled_fields IsParameters
parameters_unique = narrowed fields_unique (λ ms p. p.0)

pub needs_unique : IsUnique (spelled_list spelled_bytes) IsProperNeeds
needs_unique = narrowed (list_unique resource_name_unique) (λ names p. p.0)

policies : (x y : Policy) (r q : List ℕ) → spelled_policy x ++ r ≡ spelled_policy y ++ q → (x ≡ y) × (r ≡ q)
policies Delete Delete r q e = (refl, cc)
policies Delete Retain r q e = absurd cc
policies Retain Delete r q e = absurd cc
policies Retain Retain r q e = (refl, cc)

pub policy_unique : IsUnique spelled_policy IsPolicy
policy_unique = record { one = λ x y r q p o e. policies x y r q e }

unfoldable pub kind_parts : Regroups (spelled_pair spelled_bytes (spelled_pair (spelled_list spelled_bytes) (spelled_list spelled_bytes)))
    (AreBoth IsText (AreBoth (AreAll IsText) (AreAll IsText)))
    spelled_kind IsProperKind
unfolding spelled_kind
kind_parts = record {
  to = λ t. record { name = t.0; attrs = t.1.0; soft = t.1.1 };
  from = λ k. (k.name, (k.attrs, k.soft));
  back = λ t. refl;
  again = λ k. refl;
  alike = λ k. refl;
  keeps = λ t h. record { name = h.0; attrs = h.1.0; soft = h.1.1 };
  gives = λ k h. (h.name, (h.attrs, h.soft));
}

pub kind_unique : IsUnique spelled_kind IsProperKind
kind_unique = regrouped_unique kind_parts (pair_unique text_unique (pair_unique (list_unique text_unique) (list_unique text_unique)))

unfoldable pub facts_parts : Regroups (spelled_pair spelled_bytes spelled_fields)
    (AreBoth IsText IsProperties)
    spelled_facts IsProperFacts
unfolding spelled_facts
facts_parts = record {
  to = λ t. record { id = t.0; attrs = t.1 };
  from = λ f. (f.id, f.attrs);
  back = λ t. refl;
  again = λ f. refl;
  alike = λ f. refl;
  keeps = λ t h. record { id = h.0; attrs = h.1 };
  gives = λ f h. (h.id, h.attrs);
}

pub facts_unique : IsUnique spelled_facts IsProperFacts
facts_unique = regrouped_unique facts_parts (pair_unique text_unique properties_unique)

unfoldable pub item_parts : Regroups (spelled_pair spelled_bytes (spelled_pair spelled_kind (spelled_pair spelled_fields (spelled_pair (spelled_list spelled_bytes) spelled_policy))))
    (AreBoth IsResName (AreBoth IsProperKind (AreBoth IsProperties (AreBoth IsProperNeeds IsPolicy))))
    spelled_item IsProperItem
unfolding spelled_item
item_parts = record {
  to = λ t. record { name = t.0; kind = t.1.0; props = t.1.1.0; needs = t.1.1.1.0; policy = t.1.1.1.1 };
  from = λ i. (i.name, (i.kind, (i.props, (i.needs, i.policy))));
  back = λ t. refl;
  again = λ i. refl;
  alike = λ i. refl;
  keeps = λ t h. record { name = h.0; kind = h.1.0; props = h.1.1.0; needs = h.1.1.1.0; policy = h.1.1.1.1 };
  gives = λ i h. (h.name, (h.kind, (h.props, (h.needs, h.policy))));
}

pub item_unique : IsUnique spelled_item IsProperItem
item_unique = regrouped_unique item_parts (pair_unique resource_name_unique (pair_unique kind_unique (pair_unique properties_unique (pair_unique needs_unique policy_unique))))

unfoldable pub output_parts : Regroups (spelled_pair spelled_bytes spelled_value)
    (AreBoth IsText (IsWithin 64))
    spelled_output IsProperOutput
unfolding spelled_output
output_parts = record {
  to = λ t. record { name = t.0; value = t.1 };
  from = λ o. (o.name, o.value);
  back = λ t. refl;
  again = λ o. refl;
  alike = λ o. refl;
  keeps = λ t h. record { name = h.0; value = h.1 };
  gives = λ o h. (h.name, h.value);
}

pub output_unique : IsUnique spelled_output IsProperOutput
output_unique = regrouped_unique output_parts (pair_unique text_unique (within_unique 64))

unfoldable pub condition_parts : Regroups (spelled_pair spelled_bytes spelled_flag)
    (AreBoth IsText IsAny)
    spelled_condition IsProperCondition
unfolding spelled_condition
condition_parts = record {
  to = λ t. record { name = t.0; value = t.1 };
  from = λ c. (c.name, c.value);
  back = λ t. refl;
  again = λ c. refl;
  alike = λ c. refl;
  keeps = λ t h. record { name = h.0; value = h.1 };
  gives = λ c h. (h.name, h.value);
}

pub condition_unique : IsUnique spelled_condition IsProperCondition
condition_unique = regrouped_unique condition_parts (pair_unique text_unique flag_unique)

unfoldable pub file_parts : Regroups (spelled_pair spelled_bytes spelled_bytes)
    (AreBoth IsText IsText)
    spelled_file IsProperFile
unfolding spelled_file
file_parts = record {
  to = λ t. record { name = t.0; content = t.1 };
  from = λ f. (f.name, f.content);
  back = λ t. refl;
  again = λ f. refl;
  alike = λ f. refl;
  keeps = λ t h. record { name = h.0; content = h.1 };
  gives = λ f h. (h.name, h.content);
}

pub file_unique : IsUnique spelled_file IsProperFile
file_unique = regrouped_unique file_parts (pair_unique text_unique text_unique)

-- a plan, but for what its items and absent names keep among them
pub record IsAnyPlan (p : PlanData) : Type 0 where
  pub items : AreAll IsProperItem p.items
  pub outputs : AreAll IsProperOutput p.outputs
  pub params : IsParameters p.params
  pub conds : AreAll IsProperCondition p.conds
  pub files : AreAll IsProperFile p.files
  pub absent : AreAll IsResName p.absent

unfoldable pub plan_parts : Regroups (spelled_pair (spelled_list spelled_item) (spelled_pair (spelled_list spelled_output) (spelled_pair spelled_fields (spelled_pair (spelled_list spelled_condition) (spelled_pair (spelled_list spelled_file) (spelled_list spelled_bytes))))))
    (AreBoth (AreAll IsProperItem) (AreBoth (AreAll IsProperOutput) (AreBoth IsParameters (AreBoth (AreAll IsProperCondition) (AreBoth (AreAll IsProperFile) (AreAll IsResName))))))
    spelled_plan IsAnyPlan
unfolding spelled_plan
plan_parts = record {
  to = λ t. record { items = t.0; outputs = t.1.0; params = t.1.1.0; conds = t.1.1.1.0; files = t.1.1.1.1.0; absent = t.1.1.1.1.1 };
  from = λ p. (p.items, (p.outputs, (p.params, (p.conds, (p.files, p.absent)))));
  back = λ t. refl;
  again = λ p. refl;
  alike = λ p. refl;
  keeps = λ t h. record { items = h.0; outputs = h.1.0; params = h.1.1.0; conds = h.1.1.1.0; files = h.1.1.1.1.0; absent = h.1.1.1.1.1 };
  gives = λ p h. (h.items, (h.outputs, (h.params, (h.conds, (h.files, h.absent)))));
}

pub any_plan_unique : IsUnique spelled_plan IsAnyPlan
any_plan_unique = regrouped_unique plan_parts (pair_unique (list_unique item_unique) (pair_unique (list_unique output_unique) (pair_unique parameters_unique (pair_unique (list_unique condition_unique) (pair_unique (list_unique file_unique) (list_unique resource_name_unique))))))

pub any_plan : (p : PlanData) → IsProperPlan p → IsAnyPlan p
any_plan p h = record {
  items = h.items;
  outputs = h.outputs;
  params = h.params;
  conds = h.conds;
  files = h.files;
  absent = h.absent;
}

pub plan_unique : IsUnique spelled_plan IsProperPlan
plan_unique = narrowed any_plan_unique any_plan
