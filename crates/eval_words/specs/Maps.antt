-- What the functions of maps give.
use Rattle.std.specs.Prelude.{ℕ, List, [], ◌∷◌, Bool, true, ◌&&◌, ◌||◌, Option, Some, None, Result, Ok, Err}
use Rattle.std.specs.Prelude.{option_map, option_and_then, unwrap_or, codes, if◌then◌else◌}
use Rattle.heat_value.specs.Coercion.{coerced}
use Rattle.heat_value.specs.Data.{Data, null, flag, whole, words, items, fields, Nodes, no_nodes, node}
use Rattle.heat_value.specs.Data.{Members, no_members, member, lookup, put}
use Rattle.hot_forms.specs.Shapes.{is_text}
use Rattle.hot_functions.specs.Forms.{are_among, stands}
use Rattle.eval_words.specs.Sorts.{wanted, text_in, object_in, object_or_null, listed, two_of}
use Rattle.eval_words.specs.declared.code.FaultCode.{FaultCode}
use Rattle.eval_words.specs.declared.code.FaultCode.TheVariants.{F05}

-- ---- map_merge

-- the map with each of these entries put into it
abbrev pub put_all : Members → Members → Members
put_all no_members base = base
put_all (member k d ms) base = put_all ms (put k d base)

-- the entries of all objects, of which the later wins; null is skipped
abbrev pub merged_onto : Members → Nodes → Option Members
merged_onto base no_nodes = Some base
merged_onto base (node d ns) = option_and_then (λ ms. merged_onto (put_all ms base) ns) (object_or_null d)

-- the entries of all objects in one; F01 where one of these is neither an object nor null
abbrev pub map_merge : Data → Result Data FaultCode
map_merge a = wanted (merged_onto no_members (listed a)) (λ ms. Ok (fields ms))

-- ---- entries whose keys may have become one

-- the map of these entries, put into a map; none where two keys are the same
abbrev pub mapped_onto : Members → Members → Option Members
mapped_onto base no_members = Some base
mapped_onto base (member k d ms) = if stands k base then None else mapped_onto (put k d base) ms

-- the map of these entries; none where two keys are the same
abbrev pub map_of : Members → Option Members
map_of ms = mapped_onto no_members ms

-- ---- map_replace

-- each value is a text
abbrev pub hold_texts : Members → Bool
hold_texts no_members = true
hold_texts (member k d ms) = is_text d && hold_texts ms

-- the object under a key; an empty one where the key doesn't stand
abbrev pub object_under : List ℕ → Members → Option Members
object_under k ms = object_in (unwrap_or (lookup k ms) (fields no_members))

-- `keys`, `values` or both, and nothing else
abbrev pub is_renaming : Members → Bool
is_renaming ms =
    are_among (codes "keys" ∷ codes "values" ∷ []) ms && (stands (codes "keys") ms || stands (codes "values") ms)

-- names of keys, each a text, and values
abbrev pub named_by : Option Members → Option Members → Option (Members × Members)
named_by names values =
    option_and_then (λ ns. if hold_texts ns then option_map (λ vs. (ns, vs)) values else None) names

-- what a map is renamed by
abbrev pub renaming_in : Members → Option (Members × Members)
renaming_in ms =
    if is_renaming ms then named_by (object_under (codes "keys") ms) (object_under (codes "values") ms) else None

-- a key that is among the names is renamed
abbrev pub name_for : Members → List ℕ → List ℕ
name_for names k = unwrap_or (option_and_then text_in (lookup k names)) k

-- a scalar that isn't null and whose text is among the values is replaced
abbrev pub value_for : Members → Data → Data
value_for values null = null
value_for values (flag b) = unwrap_or (lookup (coerced (flag b)) values) (flag b)
value_for values (whole z) = unwrap_or (lookup (coerced (whole z)) values) (whole z)
value_for values (words s) = unwrap_or (lookup s values) (words s)
value_for values (items ns) = items ns
value_for values (fields ms) = fields ms

-- the entries with keys and values replaced, in their order as before
abbrev pub renamed : Members × Members → Members → Members
renamed r no_members = no_members
renamed r (member k d ms) = member (name_for r.0 k) (value_for r.1 d) (renamed r ms)

-- F05 where two keys of a map are the same now
abbrev pub unless_same : Option Members → Result Data FaultCode
unless_same None = Err F05
unless_same (Some ms) = Ok (fields ms)

-- a map renamed by an object; F01 where one of them is of the wrong sort
abbrev pub rename_in : Data × Data → Result Data FaultCode
rename_in (map, by) =
    wanted (object_in map) (λ ms. wanted (option_and_then renaming_in (object_in by)) (λ r.
    unless_same (map_of (renamed r ms))))

-- what map_replace gives of its two parts; F01 where it hasn't two
abbrev pub map_replace : Data → Result Data FaultCode
map_replace a = wanted (two_of (listed a)) rename_in
