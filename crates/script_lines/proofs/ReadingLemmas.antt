-- Bytes are read as at most one value, and each fault of a reading excludes it.
use Rattle.std.proofs.Common.{◌≡◌, ◌≤◌, ◌<◌, ◌∙◌, ℕ, suc, List, ℤ, pos, negsuc, refl, ap, sym, subst, Some, None, arith}
use Rattle.serde_json.specs.Data as json
use Rattle.serde_json.specs.Find.{of_integer}
use Rattle.heat_value.specs.Data.{Data, null, flag, whole, words, items, fields, Nodes, no_nodes, node, Members, no_members, member, depth, nodes_depth, members_depth}
use Rattle.heat_value.specs.Compact.{json_of, json_items, json_members}
use Rattle.heat_value.specs.Reading.{IsReading, IsReadAs, IsTooDeep, HasBadNumber, HasNoReading, first_bad}
use Rattle.heat_value.specs.declared.path.Step.{Step}

-- the value that a reading of whole numbers came from
abbrev number_back : json.Num → ℤ
number_back (json.unsigned n) = pos n
number_back (json.negative z) = z
number_back (json.float x) = pos 0

abbrev mutual
  back : json.Data → Data
  back json.null = null
  back (json.boolean b) = flag b
  back (json.number n) = whole (number_back n)
  back (json.string s) = words s
  back (json.array ds) = items (items_back ds)
  back (json.object ms) = fields (members_back ms)

  items_back : json.Items → Nodes
  items_back json.no_items = no_nodes
  items_back (json.item d ds) = node (back d) (items_back ds)

  members_back : json.Members → Members
  members_back json.no_members = no_members
  members_back (json.member k d ms) = member k (back d) (members_back ms)

number_back-of_integer : (z : ℤ) → number_back (of_integer z) ≡ z
number_back-of_integer (pos n) = refl
number_back-of_integer (negsuc n) = refl

mutual
  back-json_of : (d : Data) → back (json_of d) ≡ d
  back-json_of null = refl
  back-json_of (flag b) = refl
  back-json_of (whole z) = ap whole (number_back-of_integer z)
  back-json_of (words s) = refl
  back-json_of (items ns) = ap items (back-json_items ns)
  back-json_of (fields ms) = ap fields (back-json_members ms)

  back-json_items : (ns : Nodes) → items_back (json_items ns) ≡ ns
  back-json_items no_nodes = refl
  back-json_items (node d ns) = rw (back-json_of d, back-json_items ns) refl

  back-json_members : (ms : Members) → members_back (json_members ms) ≡ ms
  back-json_members no_members = refl
  back-json_members (member k d ms) = rw (back-json_of d, back-json_members ms) refl

mutual
  depth-json_of : (d : Data) → json.depth (json_of d) ≡ depth d
  depth-json_of null = refl
  depth-json_of (flag b) = refl
  depth-json_of (whole z) = refl
  depth-json_of (words s) = refl
  depth-json_of (items ns) = ap suc (depth-json_items ns)
  depth-json_of (fields ms) = ap suc (depth-json_members ms)

  depth-json_items : (ns : Nodes) → json.items_depth (json_items ns) ≡ nodes_depth ns
  depth-json_items no_nodes = refl
  depth-json_items (node d ns) = rw (depth-json_of d, depth-json_items ns) refl

  depth-json_members : (ms : Members) → json.members_depth (json_members ms) ≡ members_depth ms
  depth-json_members no_members = refl
  depth-json_members (member k d ms) = rw (depth-json_of d, depth-json_members ms) refl

-- bytes have at most one reading
pub reading_unique : (bytes : List ℕ) (d e : json.Data) → IsReading bytes d → IsReading bytes e → d ≡ e
reading_unique bytes d e a b = let found : Some d ≡ Some e = sym a.1 ∙ b.1 in cc

pub value_unique : (bytes : List ℕ) (d e : Data) → IsReadAs bytes d → IsReadAs bytes e → d ≡ e
value_unique bytes d e a b = sym (back-json_of d) ∙ ap back (reading_unique bytes (json_of d) (json_of e) a.reading b.reading) ∙ back-json_of e

pub not_without_reading : (bytes : List ℕ) (d : Data) → HasNoReading bytes → IsReadAs bytes d → ⊥
not_without_reading bytes d has a = has (json_of d) a.reading

pub not_too_deep : (bytes : List ℕ) (d : Data) → IsTooDeep bytes → IsReadAs bytes d → ⊥
not_too_deep bytes d deep a =
    let same = reading_unique bytes deep.data_read (json_of d) deep.reading a.reading in
    let far : 64 < json.depth (json_of d) = subst (λ (x : json.Data). 64 < json.depth x) same deep.deep in
    let near : json.depth (json_of d) ≤ 64 = rw (depth-json_of d) a.shallow in
    absurd (omega (arith, far, near))

pub not_with_bad_number : (bytes : List ℕ) (p : List Step) (d : Data) → HasBadNumber bytes p → IsReadAs bytes d → ⊥
not_with_bad_number bytes p d bad a =
    let same = reading_unique bytes bad.data_read (json_of d) bad.reading a.reading in
    let found : first_bad (json_of d) ≡ Some p = subst (λ (x : json.Data). first_bad x ≡ Some p) same bad.first in
    let clash : None ≡ Some p = sym a.whole ∙ found in cc
