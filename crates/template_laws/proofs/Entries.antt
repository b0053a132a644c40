-- The resources and outputs of what was admitted are in their form.
use Rattle.std.proofs.Common.{◌≡◌, List, [], ◌∷◌, ℕ, Bool, true, false, Option, Some, None, refl, subst}
use Rattle.std.proofs.Common.{codes, is_some, not, map, if◌then◌else◌}
use Rattle.std.specs.List.{AllByRecursion}
use Rattle.heat_plan.specs.declared.conditions.Condition.{Condition}
use Rattle.heat_plan.specs.declared.plan.Output.{Output}
use Rattle.heat_value.specs.Data.{Data, null, fields, Members, no_members, member, lookup}
use Rattle.hot_admit.specs.Conds.{holds}
use Rattle.heat_value.specs.declared.path.Step.{Step}
use Rattle.heat_value.specs.declared.path.Step.TheVariants.{Key}
use Rattle.hot_admit.specs.Basis.{BasisData}
use Rattle.hot_admit.specs.Codes.{told, first_of, first_refused}
use Rattle.hot_admit.specs.Kinds.{of_unknown_kind, with_unknown_property, without_property}
use Rattle.hot_admit.specs.declared.fault.AdmitFlaw.{AdmitFlaw}
use Rattle.hot_admit.specs.Entries.{resource_flaw, output_flaw, in_resource, in_output}
use Rattle.hot_admit.specs.Places.{place_in, place_under, place_there}
use Rattle.hot_admit.specs.Plans.{output_of}
use Rattle.hot_admit.specs.References.{is_unknown_reference, unknown_in_resource, unknown_in_output}
use Rattle.hot_admit.specs.References.{unknown_attribute_in_resource}
use Rattle.hot_admit.specs.Resources.{ResourceData, OutputData, resource_with, resources_among, output_with, outputs_among}
use Rattle.hot_admit.specs.Unsupported.{is_unsupported, unsupported_in_resource, unsupported_in_output}
use Rattle.hot_admit.specs.Unsupported.{is_snapshot, is_empty}
use Rattle.hot_admit.specs.declared.code.AdmitCode.TheVariants.{A01, A02, A03, A05, A06, A08}
use Rattle.hot_catalog.specs.Paths.{behind, here_unless, first_path}
use Rattle.eval_words.specs.Lookups.{condition_named, file_named}
use Rattle.eval_words.specs.Scenes.{SceneData}
use Rattle.hot_forms.specs.Checks.{first_entry}
use Rattle.hot_forms.specs.Shapes.{members_in}
use Rattle.hot_functions.specs.Walk.{is_parameter, members_flaw}
use Rattle.hot_functions.specs.declared.place.Place.TheVariants as place
use Rattle.hot_tree.specs.Readings.{object_in, or_null}
use Rattle.hot_tree.specs.Functions.{members_there, value_there, resource_functions, output_functions}
use Rattle.template_laws.specs.Formed.{IsFormed}
use Rattle.template_laws.specs.Roles.{as_value, as_parts}
use Rattle.template_laws.proofs.Absent.{first_none, rest_none, under_none, behind_none, told_none}
use Rattle.template_laws.proofs.Checked.{value_formed, members_formed}
use Rattle.template_laws.proofs.Written.{uncalled, members_as_parts}

-- what stands there, by either reading
pub same_there : (o : Option Data) → members_there o ≡ object_in o
same_there None = refl
same_there (Some d) = refl

module _ (basis : BasisData) where
  -- ---- what admission finds nothing of

  module _ (r : ResourceData) (none : resource_flaw basis r ≡ None) where
    abbrev kind : Option AdmitFlaw
    kind = told A01 (in_resource r (of_unknown_kind basis r))

    abbrev left_out : Option AdmitFlaw
    left_out = told A08 (in_resource r (unsupported_in_resource r))

    abbrev unlike : Option AdmitFlaw
    unlike = told A05 (in_resource r (with_unknown_property basis r))

    abbrev lacking : Option AdmitFlaw
    lacking = told A06 (in_resource r (without_property basis r))

    abbrev unknown : Option AdmitFlaw
    unknown = told A02 (in_resource r (unknown_in_resource basis r))

    abbrev attribute : Option AdmitFlaw
    attribute = told A03 (in_resource r (unknown_attribute_in_resource basis r))

    past_kind : first_of (left_out ∷ unlike ∷ lacking ∷ unknown ∷ attribute ∷ []) ≡ None
    past_kind = rest_none kind (first_of (left_out ∷ unlike ∷ lacking ∷ unknown ∷ attribute ∷ [])) none

    past_properties : first_of (unknown ∷ attribute ∷ []) ≡ None
    past_properties =
        rest_none lacking (first_of (unknown ∷ attribute ∷ [])) (rest_none unlike (first_of (lacking ∷ unknown ∷ attribute ∷ [])) (rest_none left_out (first_of (unlike ∷ lacking ∷ unknown ∷ attribute ∷ [])) past_kind))

    unsupported_none : unsupported_in_resource r ≡ None
    unsupported_none = behind_none _ _ (behind_none _ _ (told_none A08 (in_resource r (unsupported_in_resource r))
        (first_none left_out (first_of (unlike ∷ lacking ∷ unknown ∷ attribute ∷ [])) past_kind)))

    unknown_none : unknown_in_resource basis r ≡ None
    unknown_none = behind_none _ _ (behind_none _ _ (told_none A02 (in_resource r (unknown_in_resource basis r))
        (first_none unknown (first_of (attribute ∷ [])) past_properties)))

    abbrev condition : Option (List Step)
    condition = behind (Key (codes "condition")) (place_there is_unsupported r.condition)

    abbrev policy : Option (List Step)
    policy = behind (Key (codes "deletion_policy")) (here_unless (not (is_snapshot r.policy)))

    abbrev identity : Option (List Step)
    identity = behind (Key (codes "external_id")) (here_unless (not (is_some r.external_id)))

    abbrev properties : Option (List Step)
    properties = behind (Key (codes "properties")) (place_under is_unsupported r.properties)

    abbrev update : Option (List Step)
    update = behind (Key (codes "update_policy")) (here_unless (is_empty r.update_policy))

    supported : place_under is_unsupported r.properties ≡ None
    supported =
        behind_none (Key (codes "properties")) (place_under is_unsupported r.properties)
        (first_none properties (first_path (update ∷ [])) (rest_none identity (first_path (properties ∷ update ∷ []))
        (rest_none policy (first_path (identity ∷ properties ∷ update ∷ [])) (rest_none condition (first_path (policy ∷ identity ∷ properties ∷ update ∷ [])) unsupported_none))))

    known : place_under (is_unknown_reference basis) r.properties ≡ None
    known = behind_none (Key (codes "properties")) _ (first_none _ _ (rest_none _ _ unknown_none))

  module _ (o : OutputData) (none : output_flaw basis o ≡ None) where
    output_supported : place_in is_unsupported o.value ≡ None
    output_supported =
        behind_none (Key (codes "value")) _ (first_none _ _ (rest_none _ _
        (behind_none _ _ (behind_none _ _ (told_none A08 (in_output o (unsupported_in_output o))
        (first_none _ _ none))))))

    output_known : place_in (is_unknown_reference basis) o.value ≡ None
    output_known =
        behind_none (Key (codes "value")) _ (first_none _ _ (rest_none _ _
        (behind_none _ _ (behind_none _ _ (told_none A02 (in_output o (unknown_in_output basis o))
        (first_none _ _ (rest_none _ _ none)))))))

module _ (params conds : Members) (basis : BasisData) (S : SceneData)
    (bound : (s : List ℕ) → is_parameter params s ≡ true → (e : Data) × (lookup s S.params ≡ Some e))
    (valued : (s : List ℕ) → is_some (lookup s conds) ≡ true → (b : Bool) × (condition_named S s ≡ Some b))
    (filed : (s : List ℕ) → is_some (lookup s basis.files) ≡ true → (t : List ℕ) × (file_named S s ≡ Some t)) where
  -- ---- resources

  abbrev pub HasFormedProperties : ResourceData → Type 0
  HasFormedProperties r = IsFormed S as_parts (fields r.properties)

  properties_flawless : (d : Data) → resource_functions params conds d ≡ None
      → members_flaw params conds place.Open (object_in (lookup (codes "properties") (members_in d))) ≡ None
  properties_flawless d none =
      subst (λ ms. members_flaw params conds place.Open ms ≡ None)
      (same_there (lookup (codes "properties") (members_in d)))
      (under_none (Key (codes "properties")) _ (first_none _ _ (rest_none _ _ none)))

  resource_formed : (k : List ℕ) (d : Data) → resource_functions params conds d ≡ None
      → resource_flaw basis (resource_with k (members_in d)) ≡ None
      → HasFormedProperties (resource_with k (members_in d))
  resource_formed k d functions none =
      let r = resource_with k (members_in d) in (
        uncalled S as_parts (λ l. refl) r.properties,
        members_as_parts S _ r.properties
            (members_formed params conds basis S bound valued filed false r.properties (record {
              flaw = properties_flawless d functions;
              supported = supported basis r none;
              known = known basis r none;
            })),
      )

  pub resources_formed : (ms : Members) → first_entry (λ name d. resource_functions params conds d) ms ≡ None
      → first_refused (resource_flaw basis) (resources_among ms) ≡ None
      → AllByRecursion HasFormedProperties (resources_among ms)
  resources_formed no_members functions none = tt
  resources_formed (member k d ms) functions none = (
    resource_formed k d (under_none (Key k) (resource_functions params conds d) (first_none _ _ functions))
        (first_none _ _ none),
    resources_formed ms (rest_none _ _ functions) (rest_none _ _ none),
  )

  -- ---- outputs

  abbrev pub HasFormedValue : Output → Type 0
  HasFormedValue o = IsFormed S as_value o.value

  value_there_formed : (o : Option Data) → value_there params conds place.Open o ≡ None
      → place_in is_unsupported (or_null o) ≡ None → place_in (is_unknown_reference basis) (or_null o) ≡ None
      → IsFormed S as_value (or_null o)
  value_there_formed None flaw fits names = tt
  value_there_formed (Some d) flaw fits names =
      value_formed params conds basis S bound valued filed false d
      (record { flaw = flaw; supported = fits; known = names })

  output_formed : (k : List ℕ) (d : Data) → output_functions params conds d ≡ None
      → output_flaw basis (output_with k (members_in d)) ≡ None
      → IsFormed S as_value (or_null (lookup (codes "value") (members_in d)))
  output_formed k d functions none =
      value_there_formed (lookup (codes "value") (members_in d))
      (under_none (Key (codes "value")) _ (first_none _ _ (rest_none _ _ functions)))
      (output_supported basis (output_with k (members_in d)) none)
      (output_known basis (output_with k (members_in d)) none)

  -- null where it isn't wanted
  made_formed : (bound : Members) (values : List Condition) (o : OutputData) → IsFormed S as_value o.value
      → HasFormedValue (output_of bound values o)
  made_formed bound values o formed = by (holds bound values o.condition)
    where
      by : (b : Bool) → IsFormed S as_value (if b then o.value else null)
      by true = formed
      by false = tt

  pub outputs_formed : (given : Members) (values : List Condition) (ms : Members)
      → first_entry (λ name d. output_functions params conds d) ms ≡ None
      → first_refused (output_flaw basis) (outputs_among ms) ≡ None
      → AllByRecursion HasFormedValue (map (output_of given values) (outputs_among ms))
  outputs_formed given values no_members functions none = tt
  outputs_formed given values (member k d ms) functions none = (
    made_formed given values (output_with k (members_in d))
        (output_formed k d (under_none (Key k) (output_functions params conds d) (first_none _ _ functions))
        (first_none _ _ none)),
    outputs_formed given values ms (rest_none _ _ functions) (rest_none _ _ none),
  )
