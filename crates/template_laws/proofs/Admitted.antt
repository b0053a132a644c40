-- What was admitted is in its form, and so faults by no form.
use Rattle.std.proofs.Common.{◌≡◌, ◌++◌, List, [], ◌∷◌, ℕ, Bool, true, false, Option, Some, None, sym, subst}
use Rattle.std.proofs.Common.{codes, cond, is_some, filter}
use Rattle.std.proofs.lemmas.List.Elements.{All-from_recursion}
use Rattle.std.specs.List.{AllByRecursion}
use Rattle.heat_plan.specs.Plans.{PlanData}
use Rattle.heat_plan.specs.declared.facts.KnownFacts.{KnownFacts}
use Rattle.heat_plan.specs.declared.item.Item.{Item}
use Rattle.heat_plan.specs.declared.plan.Output.{Output}
use Rattle.heat_value.specs.Data.{Data, fields, Members, lookup}
use Rattle.heat_value.specs.declared.path.Step.TheVariants.{Key}
use Rattle.hot_admit.specs.Basis.{BasisData, kind_at}
use Rattle.hot_admit.specs.Codes.{first_of as first_admission, first_refused}
use Rattle.hot_admit.specs.Entries.{resource_flaw, output_flaw, with_many_resources}
use Rattle.hot_admit.specs.Items.{item_with, items_with, is_wanted}
use Rattle.hot_admit.specs.Plans.{Given, basis_of, plan_in, values_in}
use Rattle.hot_admit.specs.Resources.{ResourceData, resources_in, outputs_in}
use Rattle.eval_words.specs.Lookups.{condition_named, file_named}
use Rattle.eval_words.specs.Scenes.{SceneData, scene_of}
use Rattle.hot_forms.specs.Checks.{first_of, first_entry}
use Rattle.hot_functions.specs.Walk.{is_parameter}
use Rattle.hot_forms.specs.Sections.{section, sections_flaw}
use Rattle.hot_forms.specs.declared.flaw.Flaw.{Flaw}
use Rattle.hot_tree.specs.Readings.{entries}
use Rattle.type_catalog.specs.declared.kind.KindDef.{KindDef}
use Rattle.hot_tree.specs.Functions.{condition_functions, resource_functions, output_functions}
use Rattle.hot_tree.specs.Whole.{entries as whole_entries, in_section, entries_flaw, functions_flaw, template_flaw}
use Rattle.template_laws.specs.Formed.{IsFormed}
use Rattle.template_laws.specs.Roles.{as_value, as_parts}
use Rattle.template_laws.proofs.NoForm.{values_law, properties_law}
use Rattle.template_plans.specs.Plans.{given_with}
use Rattle.template_laws.specs.Plans.{PlansFaultByNoForm}
use Rattle.template_laws.specs.Admissions.{AdmittedFaultsByNoForm, AdmittedIsFormed, IsPlanFormed, WasAdmitted}
use Rattle.template_laws.proofs.Absent.{first_none, rest_none, under_none}
use Rattle.template_laws.proofs.Binds.{binds_each}
use Rattle.template_laws.proofs.Entries.{HasFormedProperties, HasFormedValue, outputs_formed, resources_formed, same_there}
use Rattle.template_laws.proofs.There.{condition_valued, file_there}

-- ---- items

module _ (P : ResourceData → Type 0) where
  -- of those that are wanted too
  filtered : (is : ResourceData → Bool) (rs : List ResourceData) → AllByRecursion P rs → AllByRecursion P (filter is rs)
  filtered is [] all = tt
  filtered is (r ∷ rs) all = by (is r) (filtered is rs all.1)
    where
      by : (b : Bool) → AllByRecursion P (filter is rs) → AllByRecursion P (cond b (r ∷ filter is rs) (filter is rs))
      by true rest = (all.0, rest)
      by false rest = rest

module _ (S : SceneData) where
  abbrev HasFormedProps : Item → Type 0
  HasFormedProps i = IsFormed S as_parts (fields i.props)

  items_formed : (basis : BasisData) (names : List (List ℕ)) (rs : List ResourceData)
      → AllByRecursion (λ (r : ResourceData). IsFormed S as_parts (fields r.properties)) rs
      → AllByRecursion HasFormedProps (items_with basis names rs)
  items_formed basis names [] all = tt
  items_formed basis names (r ∷ rs) all = by (kind_at basis r) (items_formed basis names rs all.1)
    where
      by : (o : Option KindDef) → AllByRecursion HasFormedProps (items_with basis names rs)
          → AllByRecursion HasFormedProps (item_with names r o ++ items_with basis names rs)
      by None rest = rest
      by (Some kind) rest = (all.0, rest)

-- ---- a template

module _ (template : Members) (given : Given) (plan : PlanData) (was : WasAdmitted template given plan)
    (known : List KnownFacts) where
  abbrev S : SceneData
  S = scene_of (plan_in template given) known

  abbrev params : Members
  params = whole_entries (codes "parameters") template

  abbrev conds : Members
  conds = whole_entries (codes "conditions") template

  abbrev basis : BasisData
  basis = basis_of template given

  same_entries : (k : List ℕ) → whole_entries k template ≡ entries k template
  same_entries k = same_there (section k template)

  bound : (s : List ℕ) → is_parameter params s ≡ true → (e : Data) × (lookup s S.params ≡ Some e)
  bound = binds_each was.tests was.ids template was.params given.params was.bound

  valued : (s : List ℕ) → is_some (lookup s conds) ≡ true → (b : Bool) × (condition_named S s ≡ Some b)
  valued s there =
      condition_valued given.params template was.admitted.values was.rising s
      (subst (λ ms. is_some (lookup s ms) ≡ true) (same_entries (codes "conditions")) there)

  filed : (s : List ℕ) → is_some (lookup s basis.files) ≡ true → (t : List ℕ) × (file_named S s ≡ Some t)
  filed s there = file_there s given.files there

  -- ---- what template checks find nothing of

  abbrev in_conditions : Option Flaw
  in_conditions = in_section (codes "conditions") (λ name d. condition_functions params conds d) template

  abbrev in_resources : Option Flaw
  in_resources = in_section (codes "resources") (λ name d. resource_functions params conds d) template

  abbrev in_outputs : Option Flaw
  in_outputs = in_section (codes "outputs") (λ name d. output_functions params conds d) template

  past_conditions : first_of (in_resources ∷ in_outputs ∷ []) ≡ None
  past_conditions =
      rest_none in_conditions (first_of (in_resources ∷ in_outputs ∷ []))
      (first_none (functions_flaw template) None
      (rest_none (entries_flaw template) (first_of (functions_flaw template ∷ []))
      (rest_none (sections_flaw template) (first_of (entries_flaw template ∷ functions_flaw template ∷ [])) was.right)))

  resources_flawless : first_entry (λ name d. resource_functions params conds d) (entries (codes "resources") template)
      ≡ None
  resources_flawless =
      subst (λ ms. first_entry (λ name d. resource_functions params conds d) ms ≡ None)
      (same_entries (codes "resources"))
      (under_none (Key (codes "resources")) _
      (first_none in_resources (first_of (in_outputs ∷ [])) past_conditions))

  outputs_flawless : first_entry (λ name d. output_functions params conds d) (entries (codes "outputs") template) ≡ None
  outputs_flawless =
      subst (λ ms. first_entry (λ name d. output_functions params conds d) ms ≡ None)
      (same_entries (codes "outputs"))
      (under_none (Key (codes "outputs")) _
      (first_none in_outputs None (rest_none in_resources (first_of (in_outputs ∷ [])) past_conditions)))

  -- ---- what admission finds nothing of

  past_many : first_admission (first_refused (resource_flaw basis) (resources_in template)
      ∷ first_refused (output_flaw basis) (outputs_in template) ∷ []) ≡ None
  past_many =
      rest_none (with_many_resources (resources_in template))
      (first_admission (first_refused (resource_flaw basis) (resources_in template)
      ∷ first_refused (output_flaw basis) (outputs_in template) ∷ [])) was.admitted.right

  resources_right : first_refused (resource_flaw basis) (resources_in template) ≡ None
  resources_right =
      first_none (first_refused (resource_flaw basis) (resources_in template))
      (first_admission (first_refused (output_flaw basis) (outputs_in template) ∷ [])) past_many

  outputs_right : first_refused (output_flaw basis) (outputs_in template) ≡ None
  outputs_right =
      first_none (first_refused (output_flaw basis) (outputs_in template)) None
      (rest_none (first_refused (resource_flaw basis) (resources_in template))
      (first_admission (first_refused (output_flaw basis) (outputs_in template) ∷ [])) past_many)

  -- ---- the plan

  all_items : AllByRecursion (HasFormedProps S) (plan_in template given).items
  all_items =
      items_formed S basis _ _
      (filtered (HasFormedProperties params conds basis S bound valued filed)
      (is_wanted given.params (values_in template given)) (resources_in template)
      (resources_formed params conds basis S bound valued filed (entries (codes "resources") template)
      resources_flawless resources_right))

  all_outputs : AllByRecursion (HasFormedValue params conds basis S bound valued filed)
      (plan_in template given).outputs
  all_outputs =
      outputs_formed params conds basis S bound valued filed given.params (values_in template given)
      (entries (codes "outputs") template) outputs_flawless outputs_right

  made_formed : IsPlanFormed (plan_in template given) known
  made_formed = record {
    items = λ item within. subst (HasFormedProps S) within.2
        (All-from_recursion (HasFormedProps S) (plan_in template given).items all_items within.0 item within.1);
    outputs = λ output within. subst (λ (o : Output). IsFormed S as_value o.value) within.2
        (All-from_recursion (λ (o : Output). IsFormed S as_value o.value) (plan_in template given).outputs all_outputs
        within.0 output within.1);
  }

  plan_formed : IsPlanFormed plan known
  plan_formed = subst (λ p. IsPlanFormed p known) (sym was.admitted.made) made_formed

pub formed_law : AdmittedIsFormed
formed_law = plan_formed

pub faults_law : AdmittedFaultsByNoForm
faults_law template given plan was known =
    let formed = plan_formed template given plan was known in
    record {
      items = λ item within c path deep. properties_law plan item known c path deep (formed.items item within);
      outputs = λ output within c path deep. values_law (scene_of plan known) output.value c path deep
          (formed.outputs output within);
    }

-- ---- bodies

pub plans_law : PlansFaultByNoForm
plans_law body it plan of rising known =
    faults_law of.template (given_with body it of.bound) plan (record {
      rising = rising;
      right = subst (λ d. template_flaw d ≡ None) of.right.value of.right.right;
      tests = it.tests;
      ids = it.ids;
      params = body.params;
      bound = of.bound_to;
      admitted = of.admitted;
    }) known
