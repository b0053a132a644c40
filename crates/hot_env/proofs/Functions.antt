-- What is wrong with the functions in values is the same where the same parameters stand, and in an object whose type is
-- another text.
use Rattle.std.proofs.Common.{◌≡◌, ◌∙◌, ℕ, ◌+◌, List, [], ◌∷◌, refl, ap, sym, subst, codes}
use Rattle.std.proofs.Common.{Bool, true, false, not, ◌||◌, Option, Some, None, option_map, is_some, if◌then◌else◌}
use Rattle.std.proofs.lemmas.Slice.Eq.{bytes_eq-Decides}
use Rattle.std.specs.Option.{option_or}
use Rattle.std.specs.Str.{bytes_eq}
use Rattle.heat_value.specs.Data.{Data, null, flag, whole, words, items, fields, Nodes, no_nodes, node, Members, no_members}
use Rattle.heat_value.specs.Data.{member, lookup}
use Rattle.heat_value.specs.declared.path.Step.TheVariants.{Key, Index}
use Rattle.hot_forms.specs.Checks.{under, first_of, unless, is_among}
use Rattle.hot_forms.specs.Shapes.{members_in}
use Rattle.hot_forms.specs.declared.code.HotCode.TheVariants.{H22, H24}
use Rattle.hot_forms.specs.declared.flaw.Flaw.{Flaw}
use Rattle.hot_functions.specs.Forms.{lone, has_form}
use Rattle.hot_functions.specs.Places.{item_place, member_place, form_at}
use Rattle.hot_functions.specs.Walk.{pseudo_parameters, unnamed_parameter, names_no_parameter, unnamed}
use Rattle.hot_functions.specs.Walk.{argument_flaw, is_barred, function_flaw, value_flaw, items_flaw, members_flaw}
use Rattle.hot_functions.specs.declared.form.Form.{Form}
use Rattle.hot_functions.specs.declared.form.Form.TheVariants as form
use Rattle.hot_functions.specs.declared.place.Place.{Place}
use Rattle.hot_functions.specs.declared.place.Place.TheVariants as place
use Rattle.hot_tree.specs.Functions.{members_there, value_there, property_functions, resource_functions, output_functions}
use Rattle.hot_env.specs.Applied.{each_value, within, retyped, under_key, retyped_in, inner_retyped, is_group, renamed}
use Rattle.hot_env.proofs.Mapped.{lookup-each, lookup-unmade}

-- ---- the same parameters stand

abbrev pub Names : Members → Members → Type 0
Names params others = (s : List ℕ) → is_some (lookup s others) ≡ is_some (lookup s params)

module _ (params others : Members) (same : Names params others) where
  unnamed_parameter-same : (d : Data) → unnamed_parameter others d ≡ unnamed_parameter params d
  unnamed_parameter-same null = refl
  unnamed_parameter-same (flag b) = refl
  unnamed_parameter-same (whole z) = refl
  unnamed_parameter-same (words s) = λ i. unless (is_among pseudo_parameters s || same s i) H24
  unnamed_parameter-same (items ns) = refl
  unnamed_parameter-same (fields ms) = refl

  names_no_parameter-same : (d : Data) → names_no_parameter others d ≡ names_no_parameter params d
  names_no_parameter-same null = refl
  names_no_parameter-same (flag b) = refl
  names_no_parameter-same (whole z) = refl
  names_no_parameter-same (words s) = unnamed_parameter-same (words s)
  names_no_parameter-same (items no_nodes) = refl
  names_no_parameter-same (items (node d ns)) = ap (under (Index 0)) (unnamed_parameter-same d)
  names_no_parameter-same (fields ms) = refl

  unnamed-same : (f : Form) (d : Data) → unnamed others f d ≡ unnamed params f d
  unnamed-same form.Parameter d = names_no_parameter-same d
  unnamed-same form.Resource d = refl
  unnamed-same form.Attribute d = refl
  unnamed-same form.File d = refl
  unnamed-same form.Joined d = refl
  unnamed-same form.Split d = refl
  unnamed-same form.Replaced d = refl
  unnamed-same form.Repeated d = refl
  unnamed-same form.Pair d = refl
  unnamed-same form.AnyList d = refl
  unnamed-same form.Branches d = refl
  unnamed-same form.Negated d = refl
  unnamed-same form.Combined d = refl

  argument_flaw-same : (o : Option Form) (d : Data) → argument_flaw others o d ≡ argument_flaw params o d
  argument_flaw-same None d = refl
  argument_flaw-same (Some f) d = λ i. first_of (unless (has_form f d) H22 ∷ unnamed-same f d i ∷ [])

  function_flaw-same : (p : Place) (o : Option (List ℕ × Data)) → function_flaw others p o ≡ function_flaw params p o
  function_flaw-same p None = refl
  function_flaw-same p (Some m) =
      λ i. first_of (
      unless (not (is_barred p m.0)) H22 ∷ under (Key m.0) (argument_flaw-same (form_at p m.0) m.1 i) ∷ [])

  mutual
    pub value_flaw-same : (conds : Members) (p : Place) (d : Data) → value_flaw others conds p d ≡ value_flaw params conds p d
    value_flaw-same conds p null = refl
    value_flaw-same conds p (flag b) = refl
    value_flaw-same conds p (whole z) = refl
    value_flaw-same conds p (words s) = refl
    value_flaw-same conds p (items ns) = items_flaw-same conds p 0 ns
    value_flaw-same conds p (fields ms) =
        λ i. option_or (function_flaw-same p (lone ms) i) (members_flaw-same conds (member_place p (lone ms)) ms i)

    items_flaw-same : (conds : Members) (p : Place) (n : ℕ) (ns : Nodes)
        → items_flaw others conds p n ns ≡ items_flaw params conds p n ns
    items_flaw-same conds p n no_nodes = refl
    items_flaw-same conds p n (node d ns) =
        λ i. option_or (under (Index n) (value_flaw-same conds (item_place p n) d i)) (items_flaw-same conds p (n + 1) ns i)

    pub members_flaw-same : (conds : Members) (p : Place) (ms : Members)
        → members_flaw others conds p ms ≡ members_flaw params conds p ms
    members_flaw-same conds p no_members = refl
    members_flaw-same conds p (member k d ms) =
        λ i. option_or (under (Key k) (value_flaw-same conds p d i)) (members_flaw-same conds p ms i)

  value_there-same : (conds : Members) (p : Place) (o : Option Data)
      → value_there others conds p o ≡ value_there params conds p o
  value_there-same conds p None = refl
  value_there-same conds p (Some d) = value_flaw-same conds p d

  property_functions-same : (conds ms : Members) → property_functions others conds ms ≡ property_functions params conds ms
  property_functions-same conds ms =
      ap (under (Key (codes "properties"))) (members_flaw-same conds place.Open (members_there (lookup (codes "properties") ms)))

  pub resource_functions-same : (conds : Members) (d : Data)
      → resource_functions others conds d ≡ resource_functions params conds d
  resource_functions-same conds d =
      λ i. first_of (
      under (Key (codes "condition")) (value_there-same conds place.Condition (lookup (codes "condition") (members_in d)) i)
      ∷ property_functions-same conds (members_in d) i ∷ [])

  pub output_functions-same : (conds : Members) (d : Data) → output_functions others conds d ≡ output_functions params conds d
  output_functions-same conds d =
      λ i. first_of (
      under (Key (codes "condition")) (value_there-same conds place.Condition (lookup (codes "condition") (members_in d)) i)
      ∷ under (Key (codes "value")) (value_there-same conds place.Open (lookup (codes "value") (members_in d)) i) ∷ [])

-- ---- another type

module _ (params conds : Members) where
  members_flaw-each : (f : List ℕ → Data → Data) (p : Place) (ms : Members)
      → ((k : List ℕ) (d : Data) → value_flaw params conds p (f k d) ≡ value_flaw params conds p d)
      → members_flaw params conds p (each_value f ms) ≡ members_flaw params conds p ms
  members_flaw-each f p no_members same = refl
  members_flaw-each f p (member k d ms) same =
      λ i. option_or (under (Key k) (same k d i)) (members_flaw-each f p ms same i)

  retyped-flaw : (types : Members) (d : Data)
      → value_flaw params conds place.Open (retyped types d) ≡ value_flaw params conds place.Open d
  retyped-flaw types null = refl
  retyped-flaw types (flag b) = refl
  retyped-flaw types (whole z) = refl
  retyped-flaw types (words s) = refl
  retyped-flaw types (items ns) = refl
  retyped-flaw types (fields ms) = refl

  -- a choice between two, of which both have the same flaws
  chosen-flaw : (b : Bool) (d e : Data) → value_flaw params conds place.Open e ≡ value_flaw params conds place.Open d
      → value_flaw params conds place.Open (if b then e else d) ≡ value_flaw params conds place.Open d
  chosen-flaw true d e same = same
  chosen-flaw false d e same = refl

  -- an object whose only member may be a type
  lone-flaw : (types : Members) (k : List ℕ) (d : Data) (b : Bool) → bytes_eq k (codes "type") ≡ b
      → value_flaw params conds place.Open (fields (member k (if b then retyped types d else d) no_members))
      ≡ value_flaw params conds place.Open (fields (member k d no_members))
  lone-flaw types k d false is = refl
  lone-flaw types k d true is =
      subst (λ (x : List ℕ). value_flaw params conds place.Open (fields (member x (retyped types d) no_members))
      ≡ value_flaw params conds place.Open (fields (member x d no_members)))
      (sym ((bytes_eq-Decides k (codes "type")).0 is))
      (ap (λ (o : Option Flaw). option_or (under (Key (codes "type")) o) None) (retyped-flaw types d))

  definition-flaw : (types : Members) (d : Data)
      → value_flaw params conds place.Open (within (retyped_in types) d) ≡ value_flaw params conds place.Open d
  definition-flaw types null = refl
  definition-flaw types (flag b) = refl
  definition-flaw types (whole z) = refl
  definition-flaw types (words s) = refl
  definition-flaw types (items ns) = refl
  definition-flaw types (fields no_members) = refl
  definition-flaw types (fields (member k d no_members)) = lone-flaw types k d (bytes_eq k (codes "type")) refl
  definition-flaw types (fields (member k d (member l e ms))) =
      members_flaw-each (λ k d. if bytes_eq k (codes "type") then retyped types d else d) place.Open
      (member k d (member l e ms)) (λ k d. chosen-flaw (bytes_eq k (codes "type")) d (retyped types d) (retyped-flaw types d))

  inner-flaw : (types props : Members)
      → members_flaw params conds place.Open (inner_retyped types props) ≡ members_flaw params conds place.Open props
  inner-flaw types props =
      members_flaw-each (λ k d. if bytes_eq k (codes "resource_def") then within (retyped_in types) d else d) place.Open props
      (λ k d. chosen-flaw (bytes_eq k (codes "resource_def")) d (within (retyped_in types) d) (definition-flaw types d))

  there-inner : (types : Members) (o : Option Data)
      → members_flaw params conds place.Open (members_there (option_map (within (inner_retyped types)) o))
      ≡ members_flaw params conds place.Open (members_there o)
  there-inner types None = refl
  there-inner types (Some null) = refl
  there-inner types (Some (flag b)) = refl
  there-inner types (Some (whole z)) = refl
  there-inner types (Some (words s)) = refl
  there-inner types (Some (items ns)) = refl
  there-inner types (Some (fields ms)) = inner-flaw types ms

  -- what is wrong with the functions of a resource, by its members
  abbrev of_members : Members → Option Flaw
  of_members ms = resource_functions params conds (fields ms)

  of_retyped : (types ms : Members) → of_members (retyped_in types ms) ≡ of_members ms
  of_retyped types ms =
      let f : List ℕ → Data → Data = λ k d. if bytes_eq k (codes "type") then retyped types d else d in
      λ i. first_of (
      under (Key (codes "condition"))
      (value_there params conds place.Condition (lookup-unmade f (codes "condition") ms (λ d. refl) i))
      ∷ under (Key (codes "properties"))
      (members_flaw params conds place.Open (members_there (lookup-unmade f (codes "properties") ms (λ d. refl) i))) ∷ [])

  of_inner : (types ms : Members)
      → of_members (under_key (codes "properties") (within (inner_retyped types)) ms) ≡ of_members ms
  of_inner types ms =
      let f : List ℕ → Data → Data = λ k d. if bytes_eq k (codes "properties") then within (inner_retyped types) d else d in
      let props : members_flaw params conds place.Open (members_there (lookup (codes "properties") (each_value f ms)))
      ≡ members_flaw params conds place.Open (members_there (lookup (codes "properties") ms)) =
      ap (λ (o : Option Data). members_flaw params conds place.Open (members_there o)) (lookup-each f (codes "properties") ms)
      ∙ there-inner types (lookup (codes "properties") ms) in
      λ i. first_of (
      under (Key (codes "condition"))
      (value_there params conds place.Condition (lookup-unmade f (codes "condition") ms (λ d. refl) i))
      ∷ under (Key (codes "properties")) (props i) ∷ [])

  of_either : (types ms : Members) (b : Bool)
      → of_members (if b then under_key (codes "properties") (within (inner_retyped types)) ms else ms) ≡ of_members ms
  of_either types ms true = of_inner types ms
  of_either types ms false = refl

  pub renamed-functions : (types : Members) (name : List ℕ) (d : Data)
      → resource_functions params conds (renamed types name d) ≡ resource_functions params conds d
  renamed-functions types name null = refl
  renamed-functions types name (flag b) = refl
  renamed-functions types name (whole z) = refl
  renamed-functions types name (words s) = refl
  renamed-functions types name (items ns) = refl
  renamed-functions types name (fields ms) =
      of_either types (retyped_in types ms) (is_group (retyped_in types ms)) ∙ of_retyped types ms
