-- What a value converts to as a parameter of a type is one value.
use Rattle.std.proofs.Common.{◌≡◌, ◌∙◌, ℕ, ℤ, pos, negsuc, List, Option, Some, None, refl, ap, sym}
use Rattle.serde_json.specs.Data as json
use Rattle.serde_json.specs.Find.{as_integer}
use Rattle.heat_value.specs.Compact.{json_of, json_items, json_members}
use Rattle.heat_value.specs.Data.{Data, null, flag, whole, words, items, fields, Nodes, no_nodes, node}
use Rattle.heat_value.specs.Data.{Members, no_members, member}
use Rattle.hot_forms.specs.declared.sort.Sort.{Sort}
use Rattle.hot_forms.specs.declared.sort.Sort.TheVariants as sort
use Rattle.hot_params.specs.Conversions.{ConvertsTo, IsJsonOf}
use Rattle.hot_params.proofs.Readings.{one_reading}
use Rattle.hot_params.proofs.Sames.{one_value}

-- ---- a JSON of whole numbers is that of one value

abbrev number_back : Option ℤ → Data
number_back None = null
number_back (Some z) = whole z

abbrev mutual
  back : json.Data → Data
  back json.null = null
  back (json.boolean b) = flag b
  back (json.number n) = number_back (as_integer n)
  back (json.string s) = words s
  back (json.array ds) = items (items_back ds)
  back (json.object ms) = fields (members_back ms)

  items_back : json.Items → Nodes
  items_back json.no_items = no_nodes
  items_back (json.item d ds) = node (back d) (items_back ds)

  members_back : json.Members → Members
  members_back json.no_members = no_members
  members_back (json.member k d ms) = member k (back d) (members_back ms)

mutual
  back-json_of : (d : Data) → back (json_of d) ≡ d
  back-json_of null = refl
  back-json_of (flag b) = refl
  back-json_of (whole (pos n)) = refl
  back-json_of (whole (negsuc n)) = refl
  back-json_of (words s) = refl
  back-json_of (items ns) = ap items (items_back-json ns)
  back-json_of (fields ms) = ap fields (members_back-json ms)

  items_back-json : (ns : Nodes) → items_back (json_items ns) ≡ ns
  items_back-json no_nodes = refl
  items_back-json (node d ns) = rw (back-json_of d, items_back-json ns) refl

  members_back-json : (ms : Members) → members_back (json_members ms) ≡ ms
  members_back-json no_members = refl
  members_back-json (member k d ms) = rw (back-json_of d, members_back-json ms) refl

one_json : (v w : Data) → json_of v ≡ json_of w → v ≡ w
one_json v w e = sym (back-json_of v) ∙ (ap back e ∙ back-json_of w)

-- ---- all types

json_one : (d v w : Data) → IsJsonOf d v → IsJsonOf d w → v ≡ w
json_one null v w a b = absurd a
json_one (flag c) v w a b = absurd a
json_one (whole z) v w a b = absurd a
json_one (words s) v w a b = one_json v w (one_reading s (json_of v) (json_of w) a.0.reading b.0.reading)
json_one (items ns) v w a b = a ∙ sym b
json_one (fields ms) v w a b = a ∙ sym b

pub one_conversion : (s : Option Sort) (d v w : Data) → ConvertsTo s d v → ConvertsTo s d w → v ≡ w
one_conversion None d v w a b = absurd a
one_conversion (Some sort.Words) d v w a b = one_value sort.Words (λ e. cc) d v w a b
one_conversion (Some sort.Number) d v w a b = one_value sort.Number (λ e. cc) d v w a b
one_conversion (Some sort.Flag) d v w a b = one_value sort.Flag (λ e. cc) d v w a b
one_conversion (Some sort.Json) d v w a b = json_one d v w a b
one_conversion (Some sort.List) d v w a b = one_value sort.List (λ e. cc) d v w a b
