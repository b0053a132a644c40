-- What is wrong with a parameter is the same with another default; with a resource, the same with another type.
use Rattle.std.proofs.Common.{◌≡◌, ◌∙◌, ℕ, List, [], ◌∷◌, refl, ap, sym, codes}
use Rattle.std.proofs.Common.{Bool, true, false, Option, Some, None, option_map, if◌then◌else◌}
use Rattle.std.proofs.lemmas.Map.Lookups.{exact_bytes}
use Rattle.std.specs.Option.{option_or}
use Rattle.std.specs.Ordering.{nat_cmp, match_ordering}
use Rattle.std.specs.Str.{bytes_eq}
use Rattle.std.specs.Cmp.Lexicographic.{slice_cmp}
use Rattle.std.specs.declared.cmp.Ordering.{Ordering}
use Rattle.std.specs.declared.cmp.Ordering.TheVariants.{Less, Equal, Greater}
use Rattle.heat_value.specs.Data.{Data, null, flag, whole, words, items, fields, Members, no_members, member, put, lookup}
use Rattle.heat_value.specs.declared.path.Step.TheVariants.{Key}
use Rattle.hot_forms.specs.Checks.{wrong, deeper, under, first_of, first_entry, is_among, unknown_key}
use Rattle.hot_forms.specs.Parameters.{parameter_flaw, parts_flaw, parameter_keys, nodes_in, sort_in}
use Rattle.hot_forms.specs.Parameters.{unlisted_constraints, unsuited, untyped}
use Rattle.hot_forms.specs.Names.{misnamed}
use Rattle.hot_forms.specs.Shapes.{unshaped}
use Rattle.hot_forms.specs.declared.code.HotCode.{HotCode}
use Rattle.hot_forms.specs.declared.code.HotCode.TheVariants.{H08, H10, H13, H15, H16, H17, H19, H20}
use Rattle.hot_forms.specs.declared.flaw.Flaw.{Flaw}
use Rattle.hot_forms.specs.declared.shape.Shape.TheVariants as shape
use Rattle.hot_tree.specs.Entries as entry
use Rattle.hot_tree.specs.Entries.{resource_flaw, resource_parts, resource_keys, uncondition_in}
use Rattle.hot_env.specs.Applied.{each_value, within, with_default, defaulted, retyped, under_key, retyped_in}
use Rattle.hot_env.specs.Applied.{inner_retyped, is_group, renamed}
use Rattle.hot_env.proofs.Mapped.{lookup-each, lookup-unmade}

-- ---- checks of maps made over value by value

pub first_entry-each : (f : List ℕ → Data → Data) (c1 c2 : List ℕ → Data → Option Flaw) (ms : Members)
    → ((k : List ℕ) (d : Data) → c1 k (f k d) ≡ c2 k d) → first_entry c1 (each_value f ms) ≡ first_entry c2 ms
first_entry-each f c1 c2 no_members same = refl
first_entry-each f c1 c2 (member k d ms) same =
    λ i. option_or (under (Key k) (same k d i)) (first_entry-each f c1 c2 ms same i)

pub unknown-each : (c : HotCode) (known : List (List ℕ)) (f : List ℕ → Data → Data) (ms : Members)
    → unknown_key c known (each_value f ms) ≡ unknown_key c known ms
unknown-each c known f no_members = refl
unknown-each c known f (member k d ms) =
    λ i. if is_among known k then unknown-each c known f ms i else Some (deeper (Key k) (wrong c))

-- ---- a map with one member put

abbrev placed : Ordering → List ℕ → Data → List ℕ → Data → Members → Members
placed o k v l d ms = match_ordering o (member k v (member l d ms)) (member k v ms) (member l d (put k v ms))

put-other : (k l : List ℕ) (v : Data) (ms : Members) → bytes_eq l k ≡ false → lookup k (put l v ms) ≡ lookup k ms
put-other k l v no_members apart = ap (λ (b : Bool). if b then Some v else None) apart
put-other k l v (member m d ms) apart = by (slice_cmp nat_cmp l m) refl (put-other k l v ms apart)
  where
    by : (o : Ordering) → slice_cmp nat_cmp l m ≡ o → lookup k (put l v ms) ≡ lookup k ms
        → lookup k (placed o l v m d ms) ≡ lookup k (member m d ms)
    by Less is rest = ap (λ (b : Bool). if b then Some v else lookup k (member m d ms)) apart
    by Equal is rest =
        ap (λ (b : Bool). if b then Some v else lookup k ms) apart
        ∙ sym (ap (λ (b : Bool). if b then Some d else lookup k ms)
        (ap (λ (x : List ℕ). bytes_eq x k) (sym (exact_bytes l m is)) ∙ apart))
    by Greater is rest = ap (λ (o : Option Data). if bytes_eq m k then Some d else o) rest

unknown-put : (c : HotCode) (known : List (List ℕ)) (l : List ℕ) (v : Data) (ms : Members) → is_among known l ≡ true
    → unknown_key c known (put l v ms) ≡ unknown_key c known ms
unknown-put c known l v no_members is = ap (λ (b : Bool). if b then None else Some (deeper (Key l) (wrong c))) is
unknown-put c known l v (member m d ms) is = by (slice_cmp nat_cmp l m) refl (unknown-put c known l v ms is)
  where
    by : (o : Ordering) → slice_cmp nat_cmp l m ≡ o → unknown_key c known (put l v ms) ≡ unknown_key c known ms
        → unknown_key c known (placed o l v m d ms) ≡ unknown_key c known (member m d ms)
    by Less at rest =
        ap (λ (b : Bool). if b then unknown_key c known (member m d ms) else Some (deeper (Key l) (wrong c))) is
    by Equal at rest =
        ap (λ (b : Bool). if b then unknown_key c known ms else Some (deeper (Key l) (wrong c))) is
        ∙ sym (ap (λ (b : Bool). if b then unknown_key c known ms else Some (deeper (Key m) (wrong c)))
        (ap (λ (x : List ℕ). is_among known x) (sym (exact_bytes l m at)) ∙ is))
    by Greater at rest =
        ap (λ (o : Option Flaw). if is_among known m then o else Some (deeper (Key m) (wrong c))) rest

-- ---- parameters

parts-default : (v : Data) (ms : Members) → parts_flaw (put (codes "default") v ms) ≡ parts_flaw ms
parts-default v ms =
    let same : (k : List ℕ) → bytes_eq (codes "default") k ≡ false → lookup k (put (codes "default") v ms) ≡ lookup k ms =
    λ k apart. put-other k (codes "default") v ms apart in
    λ i. first_of (
    unknown-put H08 parameter_keys (codes "default") v ms refl i
    ∷ untyped (same (codes "type") refl i)
    ∷ first_of (
    under (Key (codes "description")) (unshaped H10 shape.Text (same (codes "description") refl i))
    ∷ under (Key (codes "hidden")) (unshaped H10 shape.Flag (same (codes "hidden") refl i))
    ∷ under (Key (codes "immutable")) (unshaped H10 shape.Flag (same (codes "immutable") refl i))
    ∷ under (Key (codes "label")) (unshaped H10 shape.Text (same (codes "label") refl i))
    ∷ under (Key (codes "tags")) (unshaped H10 shape.Texts (same (codes "tags") refl i)) ∷ [])
    ∷ under (Key (codes "constraints")) (unlisted_constraints (same (codes "constraints") refl i))
    ∷ under (Key (codes "constraints"))
    (unsuited (sort_in (same (codes "type") refl i)) (nodes_in (same (codes "constraints") refl i))) ∷ [])

with_default-flaw : (name : List ℕ) (o : Option Data) (d : Data)
    → parameter_flaw name (with_default o d) ≡ parameter_flaw name d
with_default-flaw name None d = refl
with_default-flaw name (Some v) null = refl
with_default-flaw name (Some v) (flag b) = refl
with_default-flaw name (Some v) (whole z) = refl
with_default-flaw name (Some v) (words s) = refl
with_default-flaw name (Some v) (items ns) = refl
with_default-flaw name (Some v) (fields ms) = λ i. first_of (misnamed name ∷ parts-default v ms i ∷ [])

pub defaulted-flaw : (defaults : Members) (name : List ℕ) (d : Data)
    → parameter_flaw name (defaulted defaults name d) ≡ parameter_flaw name d
defaulted-flaw defaults name d = with_default-flaw name (lookup name defaults) d

-- ---- resources

untyped-retyped : (types : Members) (o : Option Data) → entry.untyped (option_map (retyped types) o) ≡ entry.untyped o
untyped-retyped types None = refl
untyped-retyped types (Some null) = refl
untyped-retyped types (Some (flag b)) = refl
untyped-retyped types (Some (whole z)) = refl
untyped-retyped types (Some (words s)) = refl
untyped-retyped types (Some (items ns)) = refl
untyped-retyped types (Some (fields ms)) = refl

shaped-within : (g : Members → Members) (o : Option Data)
    → unshaped H15 shape.ObjectOrNull (option_map (within g) o) ≡ unshaped H15 shape.ObjectOrNull o
shaped-within g None = refl
shaped-within g (Some null) = refl
shaped-within g (Some (flag b)) = refl
shaped-within g (Some (whole z)) = refl
shaped-within g (Some (words s)) = refl
shaped-within g (Some (items ns)) = refl
shaped-within g (Some (fields ms)) = refl

parts-retyped : (types : Members) (ms : Members) → resource_parts (retyped_in types ms) ≡ resource_parts ms
parts-retyped types ms =
    let f : List ℕ → Data → Data = λ k d. if bytes_eq k (codes "type") then retyped types d else d in
    let typed : entry.untyped (lookup (codes "type") (each_value f ms)) ≡ entry.untyped (lookup (codes "type") ms) =
    ap (λ (o : Option Data). entry.untyped o) (lookup-each f (codes "type") ms)
    ∙ untyped-retyped types (lookup (codes "type") ms) in
    λ i. first_of (
    unknown-each H13 resource_keys f ms i
    ∷ typed i
    ∷ under (Key (codes "properties")) (unshaped H15 shape.ObjectOrNull (lookup-unmade f (codes "properties") ms (λ d. refl) i))
    ∷ under (Key (codes "metadata")) (unshaped H16 shape.ObjectOrNull (lookup-unmade f (codes "metadata") ms (λ d. refl) i))
    ∷ under (Key (codes "depends_on")) (unshaped H17 shape.TextOrTexts (lookup-unmade f (codes "depends_on") ms (λ d. refl) i))
    ∷ under (Key (codes "deletion_policy")) (entry.unlisted (lookup-unmade f (codes "deletion_policy") ms (λ d. refl) i))
    ∷ under (Key (codes "update_policy")) (unshaped H19 shape.ObjectOrNull (lookup-unmade f (codes "update_policy") ms (λ d. refl) i))
    ∷ under (Key (codes "condition")) (uncondition_in H20 (lookup-unmade f (codes "condition") ms (λ d. refl) i)) ∷ [])

parts-within : (g : Members → Members) (ms : Members)
    → resource_parts (under_key (codes "properties") (within g) ms) ≡ resource_parts ms
parts-within g ms =
    let f : List ℕ → Data → Data = λ k d. if bytes_eq k (codes "properties") then within g d else d in
    let shaped : unshaped H15 shape.ObjectOrNull (lookup (codes "properties") (each_value f ms))
    ≡ unshaped H15 shape.ObjectOrNull (lookup (codes "properties") ms) =
    ap (λ (o : Option Data). unshaped H15 shape.ObjectOrNull o) (lookup-each f (codes "properties") ms)
    ∙ shaped-within g (lookup (codes "properties") ms) in
    λ i. first_of (
    unknown-each H13 resource_keys f ms i
    ∷ entry.untyped (lookup-unmade f (codes "type") ms (λ d. refl) i)
    ∷ under (Key (codes "properties")) (shaped i)
    ∷ under (Key (codes "metadata")) (unshaped H16 shape.ObjectOrNull (lookup-unmade f (codes "metadata") ms (λ d. refl) i))
    ∷ under (Key (codes "depends_on")) (unshaped H17 shape.TextOrTexts (lookup-unmade f (codes "depends_on") ms (λ d. refl) i))
    ∷ under (Key (codes "deletion_policy")) (entry.unlisted (lookup-unmade f (codes "deletion_policy") ms (λ d. refl) i))
    ∷ under (Key (codes "update_policy")) (unshaped H19 shape.ObjectOrNull (lookup-unmade f (codes "update_policy") ms (λ d. refl) i))
    ∷ under (Key (codes "condition")) (uncondition_in H20 (lookup-unmade f (codes "condition") ms (λ d. refl) i)) ∷ [])

parts-inner : (types : Members) (ms : Members) (b : Bool)
    → resource_parts (if b then under_key (codes "properties") (within (inner_retyped types)) ms else ms) ≡ resource_parts ms
parts-inner types ms true = parts-within (inner_retyped types) ms
parts-inner types ms false = refl

pub renamed-flaw : (types : Members) (name : List ℕ) (d : Data) → resource_flaw name (renamed types name d) ≡ resource_flaw name d
renamed-flaw types name null = refl
renamed-flaw types name (flag b) = refl
renamed-flaw types name (whole z) = refl
renamed-flaw types name (words s) = refl
renamed-flaw types name (items ns) = refl
renamed-flaw types name (fields ms) =
    ap (λ (o : Option Flaw). first_of (misnamed name ∷ o ∷ []))
    (parts-inner types (retyped_in types ms) (is_group (retyped_in types ms)) ∙ parts-retyped types ms)
