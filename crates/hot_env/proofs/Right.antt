-- A template to which an environment is applied has the flaws that it had.
use Rattle.std.proofs.Common.{◌≡◌, ◌∙◌, ℕ, List, [], ◌∷◌, refl, ap, codes, not, Option, Some, None, option_map, is_some}
use Rattle.heat_value.specs.Data.{Data, null, flag, whole, words, items, fields, Members, lookup}
use Rattle.heat_value.specs.declared.path.Step.TheVariants.{Key}
use Rattle.hot_forms.specs.Checks.{under, first_of, first_entry, unless}
use Rattle.hot_forms.specs.Parameters.{parameter_flaw}
use Rattle.hot_forms.specs.Sections.{section, sections, unless_null, unlisted, sections_flaw}
use Rattle.hot_forms.specs.Shapes.{unshaped}
use Rattle.hot_forms.specs.declared.code.HotCode.TheVariants.{H02, H03, H05, H06}
use Rattle.hot_forms.specs.declared.flaw.Flaw.{Flaw}
use Rattle.hot_forms.specs.declared.shape.Shape.TheVariants as shape
use Rattle.hot_tree.specs.Entries.{condition_flaw, resource_flaw, output_flaw}
use Rattle.hot_tree.specs.Functions.{members_there, condition_functions, resource_functions, output_functions}
use Rattle.hot_tree.specs.Template.{IsRight}
use Rattle.hot_tree.specs.Whole.{entries, entries_flaw, functions_flaw_among, functions_flaw, object_flaw}
use Rattle.hot_functions.specs.declared.place.Place.TheVariants as place
use Rattle.hot_env.specs.Applied.{each_value, within, defaulted, renamed, section_applied, applied}
use Rattle.hot_env.specs.declared.env.Env.{Env}
use Rattle.hot_env.proofs.Mapped.{lookup-each, lookup-unmade, stands-each}
use Rattle.hot_env.proofs.Entries.{first_entry-each, unknown-each, defaulted-flaw, renamed-flaw}
use Rattle.hot_env.proofs.Functions.{Names, value_flaw-same, resource_functions-same, output_functions-same, renamed-functions}

-- ---- sections

shaped-within : (g : Members → Members) (o : Option Data)
    → unshaped H06 shape.Object (unless_null (option_map (within g) o)) ≡ unshaped H06 shape.Object (unless_null o)
shaped-within g None = refl
shaped-within g (Some null) = refl
shaped-within g (Some (flag b)) = refl
shaped-within g (Some (whole z)) = refl
shaped-within g (Some (words s)) = refl
shaped-within g (Some (items ns)) = refl
shaped-within g (Some (fields ms)) = refl

there-within : (f : List ℕ → Data → Data) (o : Option Data)
    → members_there (unless_null (option_map (within (each_value f)) o)) ≡ each_value f (members_there (unless_null o))
there-within f None = refl
there-within f (Some null) = refl
there-within f (Some (flag b)) = refl
there-within f (Some (whole z)) = refl
there-within f (Some (words s)) = refl
there-within f (Some (items ns)) = refl
there-within f (Some (fields ms)) = refl

first-same : (c1 c2 : List ℕ → Data → Option Flaw) (ms : Members) → ((k : List ℕ) (d : Data) → c1 k d ≡ c2 k d)
    → first_entry c1 ms ≡ first_entry c2 ms
first-same c1 c2 ms same = ap (λ (c : List ℕ → Data → Option Flaw). first_entry c ms) (λ i k d. same k d i)

module _ (e : Env) (ms : Members) where
  abbrev f : List ℕ → Data → Data
  f = section_applied e

  abbrev new : Members
  new = applied e ms

  unmade : (k : List ℕ) → ((d : Data) → f k d ≡ d) → lookup k new ≡ lookup k ms
  unmade k same = lookup-unmade f k ms same

  params-shaped : unshaped H06 shape.Object (section (codes "parameters") new)
      ≡ unshaped H06 shape.Object (section (codes "parameters") ms)
  params-shaped =
      ap (λ (o : Option Data). unshaped H06 shape.Object (unless_null o)) (lookup-each f (codes "parameters") ms)
      ∙ shaped-within (each_value (defaulted e.defaults)) (lookup (codes "parameters") ms)

  resources-shaped : unshaped H06 shape.Object (section (codes "resources") new)
      ≡ unshaped H06 shape.Object (section (codes "resources") ms)
  resources-shaped =
      ap (λ (o : Option Data). unshaped H06 shape.Object (unless_null o)) (lookup-each f (codes "resources") ms)
      ∙ shaped-within (each_value (renamed e.types)) (lookup (codes "resources") ms)

  sections-same : sections_flaw new ≡ sections_flaw ms
  sections-same = λ i. first_of (
      first_of (
      under (Key (codes "AWSTemplateFormatVersion"))
      (unless (not (is_some (unmade (codes "AWSTemplateFormatVersion") (λ d. refl) i))) H03)
      ∷ under (Key (codes "HeatTemplateFormatVersion"))
      (unless (not (is_some (unmade (codes "HeatTemplateFormatVersion") (λ d. refl) i))) H03) ∷ [])
      ∷ unless (is_some (unless_null (unmade (codes "heat_template_version") (λ d. refl) i))) H02
      ∷ under (Key (codes "heat_template_version")) (unlisted (unless_null (unmade (codes "heat_template_version") (λ d. refl) i)))
      ∷ unknown-each H05 sections f ms i
      ∷ first_of (
      under (Key (codes "description")) (unshaped H06 shape.Text (unless_null (unmade (codes "description") (λ d. refl) i)))
      ∷ under (Key (codes "parameter_groups"))
      (unshaped H06 shape.List (unless_null (unmade (codes "parameter_groups") (λ d. refl) i)))
      ∷ under (Key (codes "parameters")) (params-shaped i)
      ∷ under (Key (codes "conditions")) (unshaped H06 shape.Object (unless_null (unmade (codes "conditions") (λ d. refl) i)))
      ∷ under (Key (codes "resources")) (resources-shaped i)
      ∷ under (Key (codes "outputs")) (unshaped H06 shape.Object (unless_null (unmade (codes "outputs") (λ d. refl) i))) ∷ [])
      ∷ [])

  -- ---- entries

  params-are : entries (codes "parameters") new ≡ each_value (defaulted e.defaults) (entries (codes "parameters") ms)
  params-are =
      ap (λ (o : Option Data). members_there (unless_null o)) (lookup-each f (codes "parameters") ms)
      ∙ there-within (defaulted e.defaults) (lookup (codes "parameters") ms)

  resources-are : entries (codes "resources") new ≡ each_value (renamed e.types) (entries (codes "resources") ms)
  resources-are =
      ap (λ (o : Option Data). members_there (unless_null o)) (lookup-each f (codes "resources") ms)
      ∙ there-within (renamed e.types) (lookup (codes "resources") ms)

  conds-are : entries (codes "conditions") new ≡ entries (codes "conditions") ms
  conds-are = ap (λ (o : Option Data). members_there (unless_null o)) (unmade (codes "conditions") (λ d. refl))

  outputs-are : entries (codes "outputs") new ≡ entries (codes "outputs") ms
  outputs-are = ap (λ (o : Option Data). members_there (unless_null o)) (unmade (codes "outputs") (λ d. refl))

  params-flaw : first_entry parameter_flaw (entries (codes "parameters") new)
      ≡ first_entry parameter_flaw (entries (codes "parameters") ms)
  params-flaw =
      ap (first_entry parameter_flaw) params-are
      ∙ first_entry-each (defaulted e.defaults) parameter_flaw parameter_flaw (entries (codes "parameters") ms)
      (defaulted-flaw e.defaults)

  resources-flaw : first_entry resource_flaw (entries (codes "resources") new)
      ≡ first_entry resource_flaw (entries (codes "resources") ms)
  resources-flaw =
      ap (first_entry resource_flaw) resources-are
      ∙ first_entry-each (renamed e.types) resource_flaw resource_flaw (entries (codes "resources") ms)
      (renamed-flaw e.types)

  entries-same : entries_flaw new ≡ entries_flaw ms
  entries-same = λ i. first_of (
      under (Key (codes "parameters")) (params-flaw i)
      ∷ under (Key (codes "conditions")) (first_entry condition_flaw (conds-are i))
      ∷ under (Key (codes "resources")) (resources-flaw i)
      ∷ under (Key (codes "outputs")) (first_entry output_flaw (outputs-are i)) ∷ [])

  -- ---- functions

  abbrev old_params : Members
  old_params = entries (codes "parameters") ms

  abbrev new_params : Members
  new_params = each_value (defaulted e.defaults) old_params

  abbrev conds : Members
  conds = entries (codes "conditions") ms

  names : Names old_params new_params
  names = λ s. stands-each (defaulted e.defaults) s old_params

  resource-functions : (name : List ℕ) (d : Data)
      → resource_functions new_params conds (renamed e.types name d) ≡ resource_functions old_params conds d
  resource-functions name d =
      renamed-functions new_params conds e.types name d ∙ resource_functions-same old_params new_params names conds d

  functions-among : functions_flaw_among new_params conds new ≡ functions_flaw_among old_params conds ms
  functions-among =
      let cs : first_entry (λ name d. condition_functions new_params conds d) (entries (codes "conditions") new)
      ≡ first_entry (λ name d. condition_functions old_params conds d) (entries (codes "conditions") ms) =
      ap (first_entry (λ name d. condition_functions new_params conds d)) conds-are
      ∙ first-same _ _ (entries (codes "conditions") ms)
      (λ k d. value_flaw-same old_params new_params names conds place.Condition d) in
      let rs : first_entry (λ name d. resource_functions new_params conds d) (entries (codes "resources") new)
      ≡ first_entry (λ name d. resource_functions old_params conds d) (entries (codes "resources") ms) =
      ap (first_entry (λ name d. resource_functions new_params conds d)) resources-are
      ∙ first_entry-each (renamed e.types) _ _ (entries (codes "resources") ms) resource-functions in
      let os : first_entry (λ name d. output_functions new_params conds d) (entries (codes "outputs") new)
      ≡ first_entry (λ name d. output_functions old_params conds d) (entries (codes "outputs") ms) =
      ap (first_entry (λ name d. output_functions new_params conds d)) outputs-are
      ∙ first-same _ _ (entries (codes "outputs") ms) (λ k d. output_functions-same old_params new_params names conds d) in
      λ i. first_of (
      under (Key (codes "conditions")) (cs i)
      ∷ under (Key (codes "resources")) (rs i) ∷ under (Key (codes "outputs")) (os i) ∷ [])

  functions-same : functions_flaw new ≡ functions_flaw ms
  functions-same = (λ i. functions_flaw_among (params-are i) (conds-are i) new) ∙ functions-among

  pub applied-flaw : object_flaw new ≡ object_flaw ms
  applied-flaw = λ i. first_of (sections-same i ∷ entries-same i ∷ functions-same i ∷ [])

  pub applied-right : IsRight ms → IsRight new
  applied-right right = applied-flaw ∙ right
