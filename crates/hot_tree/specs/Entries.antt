-- One condition, one resource, one output by itself.
use Rattle.std.specs.Prelude.{ℕ, List, [], ◌∷◌, Bool, true, false, Option, Some, None, is_some, codes}
use Rattle.heat_value.specs.Data.{Data, null, flag, whole, words, items, fields, Members, lookup}
use Rattle.heat_value.specs.declared.path.Step.TheVariants.{Key}
use Rattle.hot_forms.specs.Checks.{wrong, under, first_of, unless, is_among, unknown_key}
use Rattle.hot_forms.specs.Names.{misnamed}
use Rattle.hot_forms.specs.Shapes.{is_text, misshapen}
use Rattle.hot_forms.specs.declared.code.HotCode.{HotCode}
use Rattle.hot_forms.specs.declared.code.HotCode.TheVariants.{H13, H14, H15, H16, H17, H18, H19, H20, H21, H23}
use Rattle.hot_forms.specs.declared.flaw.Flaw.{Flaw}
use Rattle.hot_forms.specs.declared.shape.Shape.TheVariants as shape
use Rattle.hot_functions.specs.Forms.{is_condition}
use Rattle.hot_functions.specs.References.{reference_in}

-- the code where a value is no condition expression, else H23 where it refers to a resource
abbrev pub uncondition : HotCode → Data → Option Flaw
uncondition c d = first_of (unless (is_condition d) c ∷ reference_in d ∷ [])

-- H07 and H23 of an entry of `conditions`
abbrev pub condition_flaw : List ℕ → Data → Option Flaw
condition_flaw name d = first_of (misnamed name ∷ uncondition H23 d ∷ [])

-- the `condition` that stands there
abbrev pub uncondition_in : HotCode → Option Data → Option Flaw
uncondition_in c None = None
uncondition_in c (Some d) = uncondition c d

-- H20 and H23 of a resource's `condition`, H23 of an output's
abbrev pub with_no_condition : HotCode → Members → Option Flaw
with_no_condition c ms = under (Key (codes "condition")) (uncondition_in c (lookup (codes "condition") ms))

-- ---- resources

-- the keys of a resource, in byte order
abbrev pub resource_keys : List (List ℕ)
resource_keys =
    codes "condition" ∷ codes "deletion_policy" ∷ codes "depends_on" ∷ codes "external_id" ∷ codes "metadata"
    ∷ codes "properties" ∷ codes "type" ∷ codes "update_policy" ∷ []

-- a missing type is wrong at the resource, one that isn't text where it stands
abbrev pub untyped : Option Data → Option Flaw
untyped None = Some (wrong H14)
untyped (Some d) = under (Key (codes "type")) (unless (is_text d) H14)

-- H14: its type is missing or isn't text
abbrev pub with_no_type : Members → Option Flaw
with_no_type ms = untyped (lookup (codes "type") ms)

-- the policies, as spelled in the language and in lower case
abbrev pub policies : List (List ℕ)
policies =
    codes "Delete" ∷ codes "delete" ∷ codes "Retain" ∷ codes "retain" ∷ codes "Snapshot" ∷ codes "snapshot" ∷ []

-- a text that is a policy
abbrev pub is_policy : Data → Bool
is_policy null = false
is_policy (flag b) = false
is_policy (whole z) = false
is_policy (words s) = is_among policies s
is_policy (items ns) = false
is_policy (fields ms) = false

abbrev pub unlisted : Option Data → Option Flaw
unlisted None = None
unlisted (Some d) = unless (is_policy d) H18

-- H18: `deletion_policy` is none of the three
abbrev pub with_no_policy : Members → Option Flaw
with_no_policy ms = under (Key (codes "deletion_policy")) (unlisted (lookup (codes "deletion_policy") ms))

-- H13 to H20 and H23 of an object, in this order
abbrev pub resource_parts : Members → Option Flaw
resource_parts ms = first_of (
    unknown_key H13 resource_keys ms
    ∷ with_no_type ms
    ∷ misshapen H15 (codes "properties") shape.ObjectOrNull ms
    ∷ misshapen H16 (codes "metadata") shape.ObjectOrNull ms
    ∷ misshapen H17 (codes "depends_on") shape.TextOrTexts ms
    ∷ with_no_policy ms
    ∷ misshapen H19 (codes "update_policy") shape.ObjectOrNull ms
    ∷ with_no_condition H20 ms ∷ [])

-- a resource's value; H13 where it isn't an object
abbrev pub resource_described : Data → Option Flaw
resource_described null = Some (wrong H13)
resource_described (flag b) = Some (wrong H13)
resource_described (whole z) = Some (wrong H13)
resource_described (words s) = Some (wrong H13)
resource_described (items ns) = Some (wrong H13)
resource_described (fields ms) = resource_parts ms

-- H07, H13 to H20 and H23 of a resource under its name
abbrev pub resource_flaw : List ℕ → Data → Option Flaw
resource_flaw name d = first_of (misnamed name ∷ resource_described d ∷ [])

-- ---- outputs

-- the keys of an output, in byte order
abbrev pub output_keys : List (List ℕ)
output_keys = codes "condition" ∷ codes "description" ∷ codes "value" ∷ []

-- H21: it lacks its value
abbrev pub without_value : Members → Option Flaw
without_value ms = unless (is_some (lookup (codes "value") ms)) H21

-- H21 and H23 of an object, in this order
abbrev pub output_parts : Members → Option Flaw
output_parts ms = first_of (without_value ms ∷ unknown_key H21 output_keys ms ∷ with_no_condition H23 ms ∷ [])

-- an output's value; H21 where it isn't an object
abbrev pub output_described : Data → Option Flaw
output_described null = Some (wrong H21)
output_described (flag b) = Some (wrong H21)
output_described (whole z) = Some (wrong H21)
output_described (words s) = Some (wrong H21)
output_described (items ns) = Some (wrong H21)
output_described (fields ms) = output_parts ms

-- H07, H21 and H23 of an output under its name
abbrev pub output_flaw : List ℕ → Data → Option Flaw
output_flaw name d = first_of (misnamed name ∷ output_described d ∷ [])
