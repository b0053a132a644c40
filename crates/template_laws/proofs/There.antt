-- Conditions of what was admitted have values, and its files their texts.
use Rattle.std.proofs.Common.{◌≡◌, ◌∙◌, List, [], ◌∷◌, ℕ, Bool, true, false, Option, Some, None, refl, subst, ap}
use Rattle.std.proofs.Common.{bytes_eq, codes, cond, find, is_some, option_map, option_and_then, if◌then◌else◌}
use Rattle.std.specs.Option.{option_or}
use Rattle.heat_plan.specs.declared.conditions.Condition.{Condition}
use Rattle.heat_plan.specs.declared.files.File.{File}
use Rattle.heat_value.specs.Data.{Data, Members, no_members, member, lookup, Rises}
use Rattle.heat_value.specs.declared.path.Step.{Step}
use Rattle.heat_value.specs.declared.path.Step.TheVariants.{Key}
use Rattle.hot_admit.specs.Conds.{HaveValues}
use Rattle.hot_admit.specs.Plans.{files_of}
use Rattle.hot_admit.specs.Resources.{conditions_in}
use Rattle.heat_plan.specs.Named.{condition_value}
use Rattle.hot_admit.proofs.Rounds.{value_is}
use Rattle.eval_words.specs.Conditions.{flag_of, values_of, first_unvalued, first_in_section, unless_valued}
use Rattle.hot_tree.specs.Readings.{text_or, entries}
use Rattle.template_laws.proofs.Absent.{first_none}

-- ---- conditions

module _ (params : Members) (known : List Condition) (name : List ℕ) (d : Data) where
  -- a condition among those that have values has one
  gives_flag : (ms : Members) → first_unvalued params known ms ≡ None → lookup name ms ≡ Some d
      → (b : Bool) × (flag_of params known d ≡ Some b)
  gives_flag no_members none is = cc
  gives_flag (member k e ms) none is = by (flag_of params known e) refl none (bytes_eq k name) is (gives_flag ms)
    where
      path : List Step
      path = Key (codes "conditions") ∷ Key k ∷ []

      by : (o : Option Bool) → flag_of params known e ≡ o
          → unless_valued (Key (codes "conditions") ∷ Key k ∷ []) o (first_unvalued params known ms) ≡ None → (b : Bool)
          → (if b then Some e else lookup name ms) ≡ Some d
          → (first_unvalued params known ms ≡ None → lookup name ms ≡ Some d
          → (b : Bool) × (flag_of params known d ≡ Some b)) → (b : Bool) × (flag_of params known d ≡ Some b)
      by None flag none b is later = cc
      by (Some v) flag none true is later = (v, subst (λ x. flag_of params known x ≡ Some v) same flag)
        where
          same : e ≡ d
          same = cc
      by (Some v) flag none false is later = later none is

-- a text that names a condition names one that has a value
pub condition_valued : (params template : Members) → HaveValues params template → Rises (conditions_in template)
    → (name : List ℕ) → is_some (lookup name (conditions_in template)) ≡ true
    → (b : Bool) × (condition_value (values_of params (conditions_in template)) name ≡ Some b)
condition_valued params template values up name there = by (lookup name (conditions_in template)) refl there
  where
    known : List Condition
    known = values_of params (conditions_in template)

    by : (o : Option Data) → lookup name (conditions_in template) ≡ o → is_some o ≡ true
        → (b : Bool) × (condition_value (values_of params (conditions_in template)) name ≡ Some b)
    by None is there = cc
    by (Some d) is there =
        let flagged = gives_flag params (values_of params (conditions_in template)) name d (conditions_in template)
        (first_none (first_unvalued params (values_of params (conditions_in template)) (conditions_in template))
        (option_or
        (first_in_section params (values_of params (conditions_in template)) (codes "resources")
        (entries (codes "resources") template))
        (first_in_section params (values_of params (conditions_in template)) (codes "outputs")
        (entries (codes "outputs") template))) values.valued) is in (
          flagged.0,
          value_is params (conditions_in template) name up
              ∙ ap (option_and_then (flag_of params (values_of params (conditions_in template)))) is
              ∙ flagged.1,
        )

-- ---- files

-- a file that is given is among the plan's
pub file_there : (name : List ℕ) (ms : Members) → is_some (lookup name ms) ≡ true
    → (text : List ℕ)
    × (option_map (λ (f : File). f.content) (find (λ (f : File). bytes_eq f.name name) (files_of ms)) ≡ Some text)
file_there name no_members there = cc
file_there name (member k d ms) there = by (bytes_eq k name) there (file_there name ms)
  where
    by : (b : Bool) → is_some (if b then Some d else lookup name ms) ≡ true
        → (is_some (lookup name ms) ≡ true → (text : List ℕ)
        × (option_map (λ (f : File). f.content) (find (λ (f : File). bytes_eq f.name name) (files_of ms)) ≡ Some text))
        → (text : List ℕ)
        × (option_map (λ (f : File). f.content)
        (cond b (Some (record { name = k; content = text_or [] (Some d) }))
        (find (λ (f : File). bytes_eq f.name name) (files_of ms))) ≡ Some text)
    by true there later = (text_or [] (Some d), refl)
    by false there later = later there
