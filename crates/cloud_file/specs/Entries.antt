-- What the resources of a cloud file are read as.
use Rattle.std.specs.Prelude.{◌≡◌, ◌⊎◌, ◌≤◌, ℕ, List, [], ◌∷◌, Bool, Option, Some, None, Ok, Err, IfSome}
use Rattle.serde_json.specs.Data.{Data, array, object, Members, no_members, member}
use Rattle.heat_value.specs.Data.{Members as Map}
use Rattle.heat_value.specs.declared.path.Step.{Step}
use Rattle.heat_value.specs.declared.path.Step.TheVariants.{Key}
use Rattle.heat_plan.specs.declared.token.Token.{Token}
use Rattle.sim_cloud.specs.declared.held.Held.{Held}
use Rattle.sim_cloud.specs.Holding.{place_of}
use Rattle.cloud_file.specs.declared.draft.Draft.{Draft}
use Rattle.cloud_file.specs.declared.keys.Field.{Field}
use Rattle.cloud_file.specs.declared.keys.Field.TheVariants as field
use Rattle.cloud_file.specs.Keys.{field_of}
use Rattle.cloud_file.specs.Sorts.{Read, ReadsText, ReadsFlag, ReadsNumber, ReadsMap, ReadsToken}
use Rattle.cloud_file.specs.Lists.{ReadsItems}

-- what was read is put into its place, and else nothing is: the path of the fault
abbrev pub Puts : {X D : Type 0} → (X → D) → Read X → D → Option (List Step) → Type 0
Puts set (Ok x) new fault = (new ≡ set x) × (fault ≡ None)
Puts set (Err p) new fault = fault ≡ Some p

-- a field of a resource, behind the resources that are held
abbrev pub TakesField : List Held → Field → Data → Draft → Draft → Option (List Step) → Type 0
TakesField held field.Attrs d old new fault =
    (r : Read Map) × ReadsMap d r × Puts (λ x. record old { attrs = Some x }) r new fault
TakesField held field.Id d old new fault =
    (r : Read (List ℕ)) × ReadsText d r × Puts (λ x. record old { id = Some x }) r new fault
TakesField held field.Kind d old new fault =
    (r : Read (List ℕ)) × ReadsText d r × Puts (λ x. record old { kind = Some x }) r new fault
TakesField held field.Leaving d old new fault =
    (r : Read Bool) × ReadsFlag d r × Puts (λ x. record old { leaving = Some x }) r new fault
TakesField held field.Left d old new fault =
    (r : Read ℕ) × ReadsNumber 0 64 d r × Puts (λ x. record old { left = Some x }) r new fault
TakesField held field.Props d old new fault =
    (r : Read Map) × ReadsMap d r × Puts (λ x. record old { props = Some x }) r new fault
TakesField held field.Ready d old new fault =
    (r : Read Bool) × ReadsFlag d r × Puts (λ x. record old { ready = Some x }) r new fault
TakesField held field.Token d old new fault =
    (r : Read Token) × ReadsToken held d r × Puts (λ x. record old { token = Some x }) r new fault

abbrev pub TakesIf : List Held → Option Field → Data → Draft → Draft → Option (List Step) → Type 0
TakesIf held None d old new fault = fault ≡ Some []
TakesIf held (Some f) d old new fault = TakesField held f d old new fault

-- a member of a resource's object; any other key is a fault
abbrev pub TakesMember : List Held → List ℕ → Data → Draft → Draft → Option (List Step) → Type 0
TakesMember held k d old new fault = TakesIf held (field_of k) d old new fault

-- no field was read
abbrev pub nothing : Draft
nothing = record {
  attrs = None;
  id = None;
  kind = None;
  leaving = None;
  left = None;
  props = None;
  ready = None;
  token = None;
}

-- the resource of all eight fields; without one of them a fault at the resource itself
abbrev pub joined : Option Map → Option (List ℕ) → Option (List ℕ) → Option Bool → Option ℕ → Option Map
    → Option Bool → Option Token → Read Held
joined (Some attrs) (Some id) (Some kind) (Some leaving) (Some left) (Some props) (Some ready) (Some token) =
    Ok (record {
      what = record {
        token = token;
        kind = kind;
        props = props;
        facts = record { id = id; attrs = attrs };
        ready = ready;
      };
      leaving = leaving;
      left = left;
    })
joined attrs id kind leaving left props ready token = Err []

abbrev pub finished : Draft → Read Held
finished d = joined d.attrs d.id d.kind d.leaving d.left d.props d.ready d.token

-- the members of a resource's object, by their keys in order
abbrev pub ReadsFields : List Held → Draft → Members → Read Held → Type 0
ReadsFields held draft no_members r = r ≡ finished draft
ReadsFields held draft (member k d ms) r =
    ((next : Draft) × TakesMember held k d draft next None × ReadsFields held next ms r)
    ⊎ ((next : Draft) × (p : List Step) × TakesMember held k d draft next (Some p) × (r ≡ Err (Key k ∷ p)))

-- a resource
abbrev pub ReadsResource : List Held → Data → Read Held → Type 0
ReadsResource held (object ms) r = ReadsFields held nothing ms r
ReadsResource held d r = r ≡ Err []

-- the list of the resources
abbrev pub ReadsAlive : Data → Read (List Held) → Type 0
ReadsAlive (array ds) r = ReadsItems ReadsResource 0 [] ds r
ReadsAlive d r = r ≡ Err []

-- the token is free among those held, and at most 64 polls are left
pub record IsSafe (held : List Held) (draft : Draft) : Type 0 where
  pub token : IfSome draft.token (λ t. place_of held t ≡ None)
  pub left : IfSome draft.left (λ n. n ≤ 64)
