-- That values have one spelling each, and what lists and maps are as plain lists.
use Rattle.std.specs.Prelude.{◌≡◌, ℕ, suc, ◌+◌, ◌<◌, ◌≤◌, ◌^◌, ℤ, List, [], ◌∷◌, ◌++◌, length, map, true, false, refl}
use Rattle.std.proofs.Common.{sym, ap, ◌∙◌, append_assoc, arith}
use Rattle.std.specs.List.{flat_map, AllByRecursion}
use Rattle.std.specs.Int.{w64, cast_unsigned, cast_signed}
use Rattle.std.proofs.lemmas.Int.{to_z-of_z}
use mir.ValLaws.{of_z_fits}
use Rattle.std.proofs.lemmas.List.Elements.{All-from_recursion, recursion_from_All}
use Rattle.heat_value.specs.Data.{Data, null, flag, whole, words, items, fields, Nodes, no_nodes, node, node_last}
use Rattle.heat_value.specs.Data.{Members, no_members, member, nodes_depth, members_depth}
use Rattle.heat_value.specs.Meaning.{data_of, nodes_of, members_of}
use Rattle.heat_value.specs.declared.value.Value.{Value}
use Rattle.heat_value.specs.declared.value.Member.{Member as member_type}
use Rattle.plan_codec.specs.Spellings.{IsUnique, Regroups}
use Rattle.plan_codec.specs.Numbers.{spelled_number, spelled_bytes, IsText}
use Rattle.plan_codec.specs.Parts.{spelled_pair, AreBoth, spelled_list, AreAll}
use Rattle.plan_codec.specs.Values.{nodes_count, members_count, spelled_whole, IsWhole, spelled_value, spelled_nodes, spelled_members, IsValue, AreValues, AreMembers, IsWithin, spelled_items, AreItems, spelled_fields}
use Rattle.plan_codec.specs.Laws.{narrowed, number_unique, text_unique, list_unique, pair_unique, regrouped_unique}

pub whole_unique : IsUnique spelled_whole IsWhole
whole_unique = record {
  one = λ x y r q p o e.
      let both = number_unique.one (cast_unsigned w64 x) (cast_unsigned w64 y) r q (fits x p) (fits y o) e in
      (sym (to_z-of_z w64 x p) ∙ ap (cast_signed w64) both.0 ∙ to_z-of_z w64 y o, both.1);
}
  where
    fits : (z : ℤ) → IsWhole z → cast_unsigned w64 z < 2 ^ 64
    fits z p = (of_z_fits w64 z p).fits

mutual
  values : (x y : Data) (r q : List ℕ) → IsValue x → IsValue y → spelled_value x ++ r ≡ spelled_value y ++ q → (x ≡ y) × (r ≡ q)
  values null null r q p o e = (refl, cc)
  values (flag false) (flag false) r q p o e = (refl, cc)
  values (flag true) (flag true) r q p o e = (refl, cc)
  values (whole x) (whole y) r q p o e =
      let behind : spelled_whole x ++ r ≡ spelled_whole y ++ q = cc in
      let both = whole_unique.one x y r q p o behind in
      (ap whole both.0, both.1)
  values (words x) (words y) r q p o e =
      let behind : spelled_bytes x ++ r ≡ spelled_bytes y ++ q = cc in
      let both = text_unique.one x y r q p o behind in
      (ap words both.0, both.1)
  values (items x) (items y) r q p o e =
      let behind : spelled_items x ++ r ≡ spelled_items y ++ q = cc in
      let regrouped = sym (append_assoc (spelled_number (nodes_count x)) (spelled_nodes x) r) ∙ behind ∙ append_assoc (spelled_number (nodes_count y)) (spelled_nodes y) q in
      let counted = number_unique.one (nodes_count x) (nodes_count y) (spelled_nodes x ++ r) (spelled_nodes y ++ q) p.0 o.0 regrouped in
      let both = nodes x y r q counted.0 p.1 o.1 counted.1 in
      (ap items both.0, both.1)
  values (fields x) (fields y) r q p o e =
      let behind : spelled_fields x ++ r ≡ spelled_fields y ++ q = cc in
      let regrouped = sym (append_assoc (spelled_number (members_count x)) (spelled_members x) r) ∙ behind ∙ append_assoc (spelled_number (members_count y)) (spelled_members y) q in
      let counted = number_unique.one (members_count x) (members_count y) (spelled_members x ++ r) (spelled_members y ++ q) p.0 o.0 regrouped in
      let both = members x y r q counted.0 p.1.0 o.1.0 counted.1 in
      (ap fields both.0, both.1)
  values null (flag false) r q p o e = absurd cc
  values null (flag true) r q p o e = absurd cc
  values null (whole y) r q p o e = absurd cc
  values null (words y) r q p o e = absurd cc
  values null (items y) r q p o e = absurd cc
  values null (fields y) r q p o e = absurd cc
  values (flag false) null r q p o e = absurd cc
  values (flag false) (flag true) r q p o e = absurd cc
  values (flag false) (whole y) r q p o e = absurd cc
  values (flag false) (words y) r q p o e = absurd cc
  values (flag false) (items y) r q p o e = absurd cc
  values (flag false) (fields y) r q p o e = absurd cc
  values (flag true) null r q p o e = absurd cc
  values (flag true) (flag false) r q p o e = absurd cc
  values (flag true) (whole y) r q p o e = absurd cc
  values (flag true) (words y) r q p o e = absurd cc
  values (flag true) (items y) r q p o e = absurd cc
  values (flag true) (fields y) r q p o e = absurd cc
  values (whole x) null r q p o e = absurd cc
  values (whole x) (flag false) r q p o e = absurd cc
  values (whole x) (flag true) r q p o e = absurd cc
  values (whole x) (words y) r q p o e = absurd cc
  values (whole x) (items y) r q p o e = absurd cc
  values (whole x) (fields y) r q p o e = absurd cc
  values (words x) null r q p o e = absurd cc
  values (words x) (flag false) r q p o e = absurd cc
  values (words x) (flag true) r q p o e = absurd cc
  values (words x) (whole y) r q p o e = absurd cc
  values (words x) (items y) r q p o e = absurd cc
  values (words x) (fields y) r q p o e = absurd cc
  values (items x) null r q p o e = absurd cc
  values (items x) (flag false) r q p o e = absurd cc
  values (items x) (flag true) r q p o e = absurd cc
  values (items x) (whole y) r q p o e = absurd cc
  values (items x) (words y) r q p o e = absurd cc
  values (items x) (fields y) r q p o e = absurd cc
  values (fields x) null r q p o e = absurd cc
  values (fields x) (flag false) r q p o e = absurd cc
  values (fields x) (flag true) r q p o e = absurd cc
  values (fields x) (whole y) r q p o e = absurd cc
  values (fields x) (words y) r q p o e = absurd cc
  values (fields x) (items y) r q p o e = absurd cc

  nodes : (x y : Nodes) (r q : List ℕ) → nodes_count x ≡ nodes_count y → AreValues x → AreValues y → spelled_nodes x ++ r ≡ spelled_nodes y ++ q → (x ≡ y) × (r ≡ q)
  nodes no_nodes no_nodes r q len p o e = (refl, e)
  nodes no_nodes (node d ns) r q len p o e = absurd (omega (arith, len))
  nodes (node d ns) no_nodes r q len p o e = absurd (omega (arith, len))
  nodes (node d ms) (node f ns) r q len p o e =
      let regrouped = sym (append_assoc (spelled_value d) (spelled_nodes ms) r) ∙ e ∙ append_assoc (spelled_value f) (spelled_nodes ns) q in
      let first = values d f (spelled_nodes ms ++ r) (spelled_nodes ns ++ q) p.0 o.0 regrouped in
      let others = nodes ms ns r q (omega (arith, len)) p.1 o.1 first.1 in
      (λ i. node (first.0 i) (others.0 i), others.1)

  members : (x y : Members) (r q : List ℕ) → members_count x ≡ members_count y → AreMembers x → AreMembers y → spelled_members x ++ r ≡ spelled_members y ++ q → (x ≡ y) × (r ≡ q)
  members no_members no_members r q len p o e = (refl, e)
  members no_members (member k d ms) r q len p o e = absurd (omega (arith, len))
  members (member k d ms) no_members r q len p o e = absurd (omega (arith, len))
  members (member k d ms) (member l f ns) r q len p o e =
      let whole_first = sym (append_assoc (spelled_bytes k ++ spelled_value d) (spelled_members ms) r) ∙ e ∙ append_assoc (spelled_bytes l ++ spelled_value f) (spelled_members ns) q in
      let regrouped = sym (append_assoc (spelled_bytes k) (spelled_value d) (spelled_members ms ++ r)) ∙ whole_first ∙ append_assoc (spelled_bytes l) (spelled_value f) (spelled_members ns ++ q) in
      let key = text_unique.one k l (spelled_value d ++ (spelled_members ms ++ r)) (spelled_value f ++ (spelled_members ns ++ q)) p.0.0 o.0.0 regrouped in
      let first = values d f (spelled_members ms ++ r) (spelled_members ns ++ q) p.0.1 o.0.1 key.1 in
      let others = members ms ns r q (omega (arith, len)) p.1 o.1 first.1 in
      (λ i. member (key.0 i) (first.0 i) (others.0 i), others.1)

pub value_unique : IsUnique spelled_value IsValue
value_unique = record { one = values }

pub within_unique : (limit : ℕ) → IsUnique spelled_value (IsWithin limit)
within_unique limit = narrowed value_unique (λ x p. p.0)

pub fields_unique : IsUnique spelled_fields (λ ms. IsValue (fields ms))
fields_unique = record {
  one = λ x y r q p o e.
      let both = values (fields x) (fields y) r q p o (ap (λ (t : List ℕ). 6 ∷ t) e) in
      (ap members_in both.0, both.1);
}
  where
    members_in : Data → Members
    members_in null = no_members
    members_in (flag b) = no_members
    members_in (whole z) = no_members
    members_in (words s) = no_members
    members_in (items ns) = no_members
    members_in (fields ms) = ms

-- ---- a list of values as a plain list

abbrev pub listed : Nodes → List Data
listed no_nodes = []
listed (node d ns) = d ∷ listed ns

abbrev pub nodes_from : List Data → Nodes
nodes_from [] = no_nodes
nodes_from (d ∷ ds) = node d (nodes_from ds)

pub listed-nodes_from : (ds : List Data) → listed (nodes_from ds) ≡ ds
listed-nodes_from [] = refl
listed-nodes_from (d ∷ ds) = ap (λ (t : List Data). d ∷ t) (listed-nodes_from ds)

pub nodes_from-listed : (ns : Nodes) → nodes_from (listed ns) ≡ ns
nodes_from-listed no_nodes = refl
nodes_from-listed (node d ns) = ap (node d) (nodes_from-listed ns)

pub nodes_count-listed : (ns : Nodes) → nodes_count ns ≡ length (listed ns)
nodes_count-listed no_nodes = refl
nodes_count-listed (node d ns) = ap suc (nodes_count-listed ns)

pub spelled_nodes-listed : (ns : Nodes) → spelled_nodes ns ≡ flat_map spelled_value (listed ns)
spelled_nodes-listed no_nodes = refl
spelled_nodes-listed (node d ns) = ap (λ (t : List ℕ). spelled_value d ++ t) (spelled_nodes-listed ns)

pub listed-node_last : (ns : Nodes) (d : Data) → listed (node_last ns d) ≡ listed ns ++ d ∷ []
listed-node_last no_nodes d = refl
listed-node_last (node e ns) d = ap (λ (t : List Data). e ∷ t) (listed-node_last ns d)

pub spelled_items-listed : (ns : Nodes) → spelled_items ns ≡ spelled_list spelled_value (listed ns)
spelled_items-listed ns = λ i. spelled_number (nodes_count-listed ns i) ++ spelled_nodes-listed ns i

pub all_values : (limit : ℕ) (ns : Nodes) → AreValues ns → nodes_depth ns ≤ limit → AllByRecursion (IsWithin limit) (listed ns)
all_values limit no_nodes p le = tt
all_values limit (node d ns) p le = ((p.0, omega (arith, le)), all_values limit ns p.1 (omega (arith, le)))

pub are_values : (limit : ℕ) (ds : List Data) → AllByRecursion (IsWithin limit) ds → AreValues (nodes_from ds)
are_values limit [] p = tt
are_values limit (d ∷ ds) p = (p.0.0, are_values limit ds p.1)

pub are_shallow : (limit : ℕ) (ds : List Data) → AllByRecursion (IsWithin limit) ds → nodes_depth (nodes_from ds) ≤ limit
are_shallow limit [] p = omega arith
are_shallow limit (d ∷ ds) p = omega (arith, p.0.1, are_shallow limit ds p.1)

-- a list's items, each of which nests one less deep
unfoldable pub items_parts : (limit deep : ℕ) → limit ≡ deep + 1 → Regroups (spelled_list spelled_value) (AreAll (IsWithin deep)) spelled_items (AreItems limit)
items_parts limit deep so = record {
  to = nodes_from;
  from = listed;
  back = listed-nodes_from;
  again = nodes_from-listed;
  alike = spelled_items-listed;
  keeps = λ ds p.
      let each = recursion_from_All (IsWithin deep) ds p.1 in
      let len : nodes_count (nodes_from ds) ≡ length ds = nodes_count-listed (nodes_from ds) ∙ ap length (listed-nodes_from ds) in
      ((omega (arith, len, p.0), are_values deep ds each), omega (arith, so, are_shallow deep ds each));
  gives = λ ns p. (omega (arith, nodes_count-listed ns, p.0.0), All-from_recursion (IsWithin deep) (listed ns) (all_values deep ns p.0.1 (omega (arith, so, p.1))));
}

-- ---- a map as a plain list of keys and values

abbrev pub Pair : Type 0
Pair = List ℕ × Data

abbrev pub spelled_member : Pair → List ℕ
spelled_member = spelled_pair spelled_bytes spelled_value

abbrev pub IsMember : ℕ → Pair → Type 0
IsMember limit = AreBoth IsText (IsWithin limit)

-- a member's key and value
abbrev pub pair_of : member_type → Pair
pair_of m = (m.key, data_of m.value)

pub member_unique : (limit : ℕ) → IsUnique spelled_member (IsMember limit)
member_unique limit = pair_unique text_unique (within_unique limit)

abbrev pub paired : Members → List Pair
paired no_members = []
paired (member k d ms) = (k, d) ∷ paired ms

abbrev pub members_from : List Pair → Members
members_from [] = no_members
members_from (p ∷ ps) = member p.0 p.1 (members_from ps)

pub paired-members_from : (ps : List Pair) → paired (members_from ps) ≡ ps
paired-members_from [] = refl
paired-members_from (p ∷ ps) = ap (λ (t : List Pair). p ∷ t) (paired-members_from ps)

pub members_from-paired : (ms : Members) → members_from (paired ms) ≡ ms
members_from-paired no_members = refl
members_from-paired (member k d ms) = ap (member k d) (members_from-paired ms)

pub members_count-paired : (ms : Members) → members_count ms ≡ length (paired ms)
members_count-paired no_members = refl
members_count-paired (member k d ms) = ap suc (members_count-paired ms)

pub spelled_members-paired : (ms : Members) → spelled_members ms ≡ flat_map spelled_member (paired ms)
spelled_members-paired no_members = refl
spelled_members-paired (member k d ms) = ap (λ (t : List ℕ). (spelled_bytes k ++ spelled_value d) ++ t) (spelled_members-paired ms)

pub spelled_fields-paired : (ms : Members) → spelled_fields ms ≡ spelled_list spelled_member (paired ms)
spelled_fields-paired ms = λ i. spelled_number (members_count-paired ms i) ++ spelled_members-paired ms i

pub all_members : (limit : ℕ) (ms : Members) → AreMembers ms → members_depth ms ≤ limit → AllByRecursion (IsMember limit) (paired ms)
all_members limit no_members p le = tt
all_members limit (member k d ms) p le = ((p.0.0, (p.0.1, omega (arith, le))), all_members limit ms p.1 (omega (arith, le)))

pub are_members : (limit : ℕ) (ps : List Pair) → AllByRecursion (IsMember limit) ps → AreMembers (members_from ps)
are_members limit [] p = tt
are_members limit (x ∷ ps) p = ((p.0.0, p.0.1.0), are_members limit ps p.1)

pub members_shallow : (limit : ℕ) (ps : List Pair) → AllByRecursion (IsMember limit) ps → members_depth (members_from ps) ≤ limit
members_shallow limit [] p = omega arith
members_shallow limit (x ∷ ps) p = omega (arith, p.0.1.1, members_shallow limit ps p.1)

-- the members of a map, but for the order of their keys
abbrev pub AreAnyFields : ℕ → Members → Type 0
AreAnyFields limit ms = (members_count ms < 2 ^ 64) × (AreMembers ms × (members_depth ms ≤ limit))

unfoldable pub fields_parts : (limit : ℕ) → Regroups (spelled_list spelled_member) (AreAll (IsMember limit)) spelled_fields (AreAnyFields limit)
fields_parts limit = record {
  to = members_from;
  from = paired;
  back = paired-members_from;
  again = members_from-paired;
  alike = spelled_fields-paired;
  keeps = λ ps p.
      let each = recursion_from_All (IsMember limit) ps p.1 in
      let len : members_count (members_from ps) ≡ length ps = members_count-paired (members_from ps) ∙ ap length (paired-members_from ps) in
      (omega (arith, len, p.0), (are_members limit ps each, members_shallow limit ps each));
  gives = λ ms p. (omega (arith, members_count-paired ms, p.0), All-from_recursion (IsMember limit) (paired ms) (all_members limit ms p.1.0 p.1.1));
}

pub any_fields_unique : (limit : ℕ) → IsUnique spelled_fields (AreAnyFields limit)
any_fields_unique limit = regrouped_unique (fields_parts limit) (list_unique (member_unique limit))

pub paired-members_of : (ms : List member_type) → paired (members_of ms) ≡ map pair_of ms
paired-members_of [] = refl
paired-members_of (m ∷ ms) = ap (λ (t : List Pair). pair_of m ∷ t) (paired-members_of ms)

pub members_from-pairs : (ms : List member_type) → members_from (map pair_of ms) ≡ members_of ms
members_from-pairs [] = refl
members_from-pairs (m ∷ ms) = ap (member m.key (data_of m.value)) (members_from-pairs ms)

-- ---- values and members as they stand in a list

abbrev pub of_value : Value → List ℕ
of_value v = spelled_value (data_of v)

abbrev pub is_value : Value → Type 0
is_value v = IsValue (data_of v)

abbrev pub of_member : member_type → List ℕ
of_member m = spelled_member (pair_of m)

abbrev pub is_member : member_type → Type 0
is_member m = IsText m.key × IsValue (data_of m.value)

pub nodes_count-nodes_of : (vs : List Value) → nodes_count (nodes_of vs) ≡ length vs
nodes_count-nodes_of [] = refl
nodes_count-nodes_of (v ∷ vs) = ap suc (nodes_count-nodes_of vs)

pub members_count-members_of : (ms : List member_type) → members_count (members_of ms) ≡ length ms
members_count-members_of [] = refl
members_count-members_of (m ∷ ms) = ap suc (members_count-members_of ms)

pub spelled_nodes-nodes_of : (vs : List Value) → flat_map of_value vs ≡ spelled_nodes (nodes_of vs)
spelled_nodes-nodes_of [] = refl
spelled_nodes-nodes_of (v ∷ vs) = ap (λ (t : List ℕ). of_value v ++ t) (spelled_nodes-nodes_of vs)

pub spelled_members-members_of : (ms : List member_type) → flat_map of_member ms ≡ spelled_members (members_of ms)
spelled_members-members_of [] = refl
spelled_members-members_of (m ∷ ms) = ap (λ (t : List ℕ). of_member m ++ t) (spelled_members-members_of ms)

pub are_values-nodes_of : (vs : List Value) → AllByRecursion is_value vs → AreValues (nodes_of vs)
are_values-nodes_of [] p = tt
are_values-nodes_of (v ∷ vs) p = (p.0, are_values-nodes_of vs p.1)

pub are_members-members_of : (ms : List member_type) → AllByRecursion is_member ms → AreMembers (members_of ms)
are_members-members_of [] p = tt
are_members-members_of (m ∷ ms) p = (p.0, are_members-members_of ms p.1)
