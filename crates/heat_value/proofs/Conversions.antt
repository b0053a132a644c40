-- Lists and maps that were taken over part by part.
use Rattle.std.proofs.Common.{◌≡◌, ℕ, List, [], ◌∷◌, map, refl, ap, sym, Option, Some, None, String, string_bytes, suc, Result, Ok, Err, IfOk, OnOk, ◌≤◌, subst}
use Rattle.std.specs.List.Sorted.{IsStrictlySortedBy}
use Rattle.std.specs.List.{AllByRecursion}
use Rattle.std.specs.Option.{option_or}
use Rattle.std.specs.declared.cmp.Ordering.{Ordering}
use Rattle.std.specs.declared.cmp.Ordering.TheVariants.{Less}
use Rattle.std.specs.declared.alloc.Global.{Global}
use Rattle.serde_json.specs.Data as json
use Rattle.serde_json.specs.View.{view, items_view, members_view}
use Rattle.serde_json.specs.declared.value.Value.{Value as Json}
use Rattle.heat_value.specs.Data.{Data, null, flag, whole, words, items, fields, Nodes, no_nodes, node, Members, no_members, member, depth, nodes_depth, members_depth, keys_of}
use Rattle.heat_value.specs.Compact.{json_of, json_items, json_members}
use Rattle.heat_value.specs.Meaning.{data_of, nodes_of, members_of}
use Rattle.heat_value.specs.Reading.{IsOfNumber, IsReading, IsReadAs, first_bad}
use Rattle.std.specs.Map.{keys_of as map_keys}
use Rattle.heat_value.specs.declared.path.Step.{Step}
use Rattle.heat_value.specs.declared.value.Value.{Value}
use Rattle.heat_value.specs.declared.value.Member.{Member}
use Rattle.heat_value.specs.declared.fault.ValueFault.{ValueFault}
use Rattle.heat_value.specs.declared.fault.ValueFault.TheVariants.{NotJson, TooDeep, BadNumber, Memory}

-- a value's data as JSON
abbrev pub value_json : Value → json.Data
value_json v = json_of (data_of v)

abbrev pub own_json : Member → List ℕ × json.Data
own_json e = (e.key, json_of (data_of e.value))

abbrev pub member_json : String Global × Json → List ℕ × json.Data
member_json m = (string_bytes m.0, view m.1)

pub json_items-nodes_of : (vs : List Value) (js : List Json) → map value_json vs ≡ map view js → json_items (nodes_of vs) ≡ items_view js
json_items-nodes_of [] [] e = refl
json_items-nodes_of [] (j ∷ js) e = cc
json_items-nodes_of (v ∷ vs) [] e = cc
json_items-nodes_of (v ∷ vs) (j ∷ js) e =
    let here : json_of (data_of v) ≡ view j = cc in
    let rest : map value_json vs ≡ map view js = cc in
    let more : json_items (nodes_of vs) ≡ items_view js = json_items-nodes_of vs js rest in cc

pub json_members-members_of : (es : List Member) (ms : List (String Global × Json)) → map own_json es ≡ map member_json ms → json_members (members_of es) ≡ members_view ms
json_members-members_of [] [] e = refl
json_members-members_of [] (m ∷ ms) e = cc
json_members-members_of (x ∷ es) [] e = cc
json_members-members_of (x ∷ es) (m ∷ ms) e =
    let pair : own_json x ≡ member_json m = cc in
    let key : x.key ≡ string_bytes m.0 = ap (λ (p : List ℕ × json.Data). p.0) pair in
    let here : json_of (data_of x.value) ≡ view m.1 = ap (λ (p : List ℕ × json.Data). p.1) pair in
    let rest : map own_json es ≡ map member_json ms = cc in
    let more : json_members (members_of es) ≡ members_view ms = json_members-members_of es ms rest in cc

-- what is found first stays first, whatever stands behind it
pub IsOfNumber-or : (e : ValueFault) (found rest : Option (List Step)) → IsOfNumber e found → IsOfNumber e (option_or found rest)
IsOfNumber-or NotJson found rest h = h
IsOfNumber-or TooDeep found rest h = h
IsOfNumber-or (BadNumber p) None rest h = cc
IsOfNumber-or (BadNumber p) (Some q) rest h = h
IsOfNumber-or Memory found rest h = h

mutual
  pub depth-json_of : (d : Data) → json.depth (json_of d) ≡ depth d
  depth-json_of null = refl
  depth-json_of (flag b) = refl
  depth-json_of (whole z) = refl
  depth-json_of (words s) = refl
  depth-json_of (items ns) = ap suc (depth-json_items ns)
  depth-json_of (fields ms) = ap suc (depth-json_members ms)

  pub depth-json_items : (ns : Nodes) → json.items_depth (json_items ns) ≡ nodes_depth ns
  depth-json_items no_nodes = refl
  depth-json_items (node d ns) = rw (depth-json_of d, depth-json_items ns) refl

  pub depth-json_members : (ms : Members) → json.members_depth (json_members ms) ≡ members_depth ms
  depth-json_members no_members = refl
  depth-json_members (member k d ms) = rw (depth-json_of d, depth-json_members ms) refl

-- keys that rise by what f gives, rise once f is taken of each
pub sorted-map : {K J : Type 0} (f : K → J) (R : J → J → Ordering) (ks : List K) → IsStrictlySortedBy (λ a b. R (f a) (f b)) ks → IsStrictlySortedBy R (map f ks)
unfolding IsStrictlySortedBy
sorted-map f R [] h = tt
sorted-map f R (k ∷ ks) h = (below f R k ks h.0, sorted-map f R ks h.1)
  where
    below : {K J : Type 0} (f : K → J) (R : J → J → Ordering) (k : K) (ks : List K) → AllByRecursion (λ y. R (f k) (f y) ≡ Less) ks → AllByRecursion (λ y. R (f k) y ≡ Less) (map f ks)
    below f R k [] h = tt
    below f R k (l ∷ ls) h = (h.0, below f R k ls h.1)

pub keys_of-from_members : (es : List Member) (ms : List (String Global × Json)) → map own_json es ≡ map member_json ms → keys_of (members_of es) ≡ map string_bytes (map_keys ms)
keys_of-from_members [] [] e = refl
keys_of-from_members [] (m ∷ ms) e = cc
keys_of-from_members (x ∷ es) [] e = cc
keys_of-from_members (x ∷ es) (m ∷ ms) e =
    let pair : own_json x ≡ member_json m = cc in
    let key : x.key ≡ string_bytes m.0 = ap (λ (p : List ℕ × json.Data). p.0) pair in
    let rest : map own_json es ≡ map member_json ms = cc in
    let more : keys_of (members_of es) ≡ map string_bytes (map_keys ms) = keys_of-from_members es ms rest in cc

-- what is taken over of a reading is what the bytes are read as
pub read-from_converted : (bytes : List ℕ) (d : json.Data) (r : Result Value ValueFault) → IsReading bytes d → json.depth d ≤ 64
    → IfOk r (λ v. json_of (data_of v) ≡ d) → OnOk r (first_bad d ≡ None) → IfOk r (λ v. IsReadAs bytes (data_of v))
read-from_converted bytes d (Ok v) reading shallow same sound = record {
  reading = subst (λ (x : json.Data). IsReading bytes x) (sym same) reading;
  shallow = rw (← (depth-json_of (data_of v))) (subst (λ (x : json.Data). json.depth x ≤ 64) (sym same) shallow);
  whole = subst (λ (x : json.Data). first_bad x ≡ None) (sym same) sound;
}
read-from_converted bytes d (Err e) reading shallow same sound = tt
