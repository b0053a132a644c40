-- What a body asks for, and what is wrong with one.
use Rattle.std.specs.Prelude.{◌≡◌, ◌≢◌, ◌≤◌, ℕ, List, [], ◌∷◌, Bool, false, Option, Some, None, codes, not}
use Rattle.heat_value.specs.Data.{Data, null, flag, whole, words, items, fields, Members, no_members, lookup}
use Rattle.heat_value.specs.Data.{depth, members_depth}
use Rattle.heat_value.specs.Reading.{IsReadAs, HasNoReading, IsTooDeep, HasBadNumber}
use Rattle.heat_value.specs.declared.path.Step.{Step}
use Rattle.heat_value.specs.declared.path.Step.TheVariants.{Key}
use Rattle.script_lines.specs.BodyKeys.{AreRight, AreTexts, IsFirstWrong}
use Rattle.script_lines.specs.declared.misread.Misread.{Misread}
use Rattle.script_lines.specs.declared.misread.Misread.TheVariants.{L06, L07, L08}

-- what a body gives, part by part
pub record BodyData : Type 0 where
  pub template : Data
  pub params : Members
  pub files : Members
  pub rollback : Bool

-- what a body's parts keep: template and parameters nest at most 64 deep, and files are texts
pub record IsKept (template : Data) (params files : Members) : Type 0 where
  pub shallow : depth template ≤ 64
  pub given : members_depth params ≤ 64
  pub texts : AreTexts files

-- the object that stands there; without one an empty one
abbrev pub object_in : Option Data → Members
object_in None = no_members
object_in (Some null) = no_members
object_in (Some (flag b)) = no_members
object_in (Some (whole z)) = no_members
object_in (Some (words s)) = no_members
object_in (Some (items ns)) = no_members
object_in (Some (fields ms)) = ms

-- the rollback is on where the flag that disables it is false
abbrev pub rollback_in : Option Data → Bool
rollback_in None = false
rollback_in (Some null) = false
rollback_in (Some (flag b)) = not b
rollback_in (Some (whole z)) = false
rollback_in (Some (words s)) = false
rollback_in (Some (items ns)) = false
rollback_in (Some (fields ms)) = false

-- what a body with this template gives
abbrev pub body_with : Data → Members → BodyData
body_with template members = record {
  template = template;
  params = object_in (lookup (codes "parameters") members);
  files = object_in (lookup (codes "files") members);
  rollback = rollback_in (lookup (codes "disable_rollback") members);
}

-- a body's object is right, and gives this
pub record Gives (members : Members) (body : BodyData) : Type 0 where
  pub template : Data
  pub found : lookup (codes "template") members ≡ Some template
  pub right : AreRight members
  pub given : body ≡ body_with template members

-- a body's object lacks its template, or else has a first wrong key
pub data IsMisgiven (members : Members) (path : List Step) : Type 0 where
  bare : lookup (codes "template") members ≡ None → path ≡ [] → IsMisgiven members path
  wrong : (template : Data) → lookup (codes "template") members ≡ Some template → (key : List ℕ)
      → IsFirstWrong members key → path ≡ Key key ∷ [] → IsMisgiven members path

-- why bytes are no value that is taken
pub data IsNoValue (bytes : List ℕ) (why : Misread) : Type 0 where
  no_json : HasNoReading bytes → why ≡ L06 → IsNoValue bytes why
  too_deep : IsTooDeep bytes → why ≡ L07 [] → IsNoValue bytes why
  bad_number : (path : List Step) → HasBadNumber bytes path → why ≡ L07 path → IsNoValue bytes why

-- bytes are a body that gives this
pub record IsBodyText (bytes : List ℕ) (body : BodyData) : Type 0 where
  pub members : Members
  pub reading : IsReadAs bytes (fields members)
  pub gives : Gives members body

-- why bytes are no body
pub data IsNoBody (bytes : List ℕ) (why : Misread) : Type 0 where
  unread : IsNoValue bytes why → IsNoBody bytes why
  no_object : (d : Data) → IsReadAs bytes d → ((ms : Members) → d ≢ fields ms) → why ≡ L08 [] → IsNoBody bytes why
  misgiven : (ms : Members) → IsReadAs bytes (fields ms) → (path : List Step) → IsMisgiven ms path → why ≡ L08 path
      → IsNoBody bytes why
