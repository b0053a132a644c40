-- The functions of values and of conditions, and the form of each one's argument.
use Rattle.std.specs.Prelude.{ℕ, ◌+◌, ◌==◌, nat_le, List, [], ◌∷◌, Bool, true, false, ◌&&◌, ◌||◌, Option, Some}
use Rattle.std.specs.Prelude.{None, is_some}
use Rattle.std.specs.Prelude.{bytes_eq, codes, if◌then◌else◌}
use Rattle.heat_value.specs.Data.{Data, null, flag, whole, words, items, fields, Nodes, no_nodes, node, Members}
use Rattle.heat_value.specs.Data.{no_members, member}
use Rattle.hot_forms.specs.Checks.{is_among}
use Rattle.hot_forms.specs.Shapes.{is_text, is_object}
use Rattle.hot_functions.specs.declared.form.Form.{Form}
use Rattle.hot_functions.specs.declared.form.Form.TheVariants as form

-- an object with exactly one key
abbrev pub lone : Members → Option (List ℕ × Data)
lone no_members = None
lone (member k d no_members) = Some (k, d)
lone (member k d (member l e ms)) = None

-- the functions that stand in values, of collections and conditions
abbrev pub collection_form_of : List ℕ → Option Form
collection_form_of k =
    if bytes_eq k (codes "map_merge") then Some form.AnyList else (
    if bytes_eq k (codes "map_replace") then Some form.Pair else (
    if bytes_eq k (codes "list_concat") then Some form.AnyList else (
    if bytes_eq k (codes "list_concat_unique") then Some form.AnyList else (
    if bytes_eq k (codes "filter") then Some form.Pair else (
    if bytes_eq k (codes "contains") then Some form.Pair else (
    if bytes_eq k (codes "if") then Some form.Branches else None))))))

-- the functions that stand in values, of texts, else of collections and conditions
abbrev pub text_form_of : List ℕ → Option Form
text_form_of k =
    if bytes_eq k (codes "list_join") then Some form.Joined else (
    if bytes_eq k (codes "str_split") then Some form.Split else (
    if bytes_eq k (codes "str_replace") then Some form.Replaced else (
    if bytes_eq k (codes "str_replace_strict") then Some form.Replaced else (
    if bytes_eq k (codes "repeat") then Some form.Repeated else (
    if bytes_eq k (codes "digest") then Some form.Pair else collection_form_of k)))))

-- the functions that stand in values
abbrev pub form_of : List ℕ → Option Form
form_of k =
    if bytes_eq k (codes "get_param") then Some form.Parameter else (
    if bytes_eq k (codes "get_resource") then Some form.Resource else (
    if bytes_eq k (codes "get_attr") then Some form.Attribute else (
    if bytes_eq k (codes "get_file") then Some form.File else text_form_of k)))

-- the functions that make conditions
abbrev pub condition_form_of : List ℕ → Option Form
condition_form_of k =
    if bytes_eq k (codes "equals") then Some form.Pair else (
    if bytes_eq k (codes "get_param") then Some form.Parameter else (
    if bytes_eq k (codes "not") then Some form.Negated else (
    if bytes_eq k (codes "and") then Some form.Combined else (
    if bytes_eq k (codes "or") then Some form.Combined else (
    if bytes_eq k (codes "contains") then Some form.Pair else None)))))

abbrev pub is_condition_key : Option (List ℕ × Data) → Bool
is_condition_key None = false
is_condition_key (Some p) = is_some (condition_form_of p.0)

-- a condition expression, not looked into: a flag, a text, or an object with one key, that of a condition's function
abbrev pub is_condition : Data → Bool
is_condition null = false
is_condition (flag b) = true
is_condition (whole z) = false
is_condition (words s) = true
is_condition (items ns) = false
is_condition (fields ms) = is_condition_key (lone ms)

-- each is one
abbrev pub are_conditions : Nodes → Bool
are_conditions no_nodes = true
are_conditions (node d ns) = is_condition d && are_conditions ns

-- how many parts a list has
abbrev pub count_of : Nodes → ℕ
count_of no_nodes = 0
count_of (node d ns) = 1 + count_of ns

-- begins with a text
abbrev pub begins_with_text : Nodes → Bool
begins_with_text no_nodes = false
begins_with_text (node d ns) = is_text d

-- nothing, or first a text
abbrev pub may_begin_with_text : Nodes → Bool
may_begin_with_text no_nodes = true
may_begin_with_text (node d ns) = is_text d

-- a literal name, and behind it an attribute that is literal too, if there is one
abbrev pub names_attribute : Nodes → Bool
names_attribute no_nodes = false
names_attribute (node d ns) = is_text d && may_begin_with_text ns

-- begins with a condition
abbrev pub begins_with_condition : Nodes → Bool
begins_with_condition no_nodes = false
begins_with_condition (node d ns) = is_condition d

-- the parts of a list are right for the form
abbrev pub lists_form : Form → Nodes → Bool
lists_form form.Parameter ns = begins_with_text ns
lists_form form.Resource ns = false
lists_form form.Attribute ns = names_attribute ns
lists_form form.File ns = false
lists_form form.Joined ns = nat_le 2 (count_of ns)
lists_form form.Split ns = nat_le 2 (count_of ns) && nat_le (count_of ns) 3
lists_form form.Replaced ns = false
lists_form form.Repeated ns = false
lists_form form.Pair ns = count_of ns == 2
lists_form form.AnyList ns = true
lists_form form.Branches ns = nat_le 2 (count_of ns) && nat_le (count_of ns) 3 && begins_with_condition ns
lists_form form.Negated ns = false
lists_form form.Combined ns = nat_le 2 (count_of ns) && are_conditions ns

-- a text is right for the form
abbrev pub names_form : Form → Bool
names_form form.Parameter = true
names_form form.Resource = true
names_form form.Attribute = false
names_form form.File = true
names_form form.Joined = false
names_form form.Split = false
names_form form.Replaced = false
names_form form.Repeated = false
names_form form.Pair = false
names_form form.AnyList = false
names_form form.Branches = false
names_form form.Negated = true
names_form form.Combined = false

-- each key is one of these
abbrev pub are_among : List (List ℕ) → Members → Bool
are_among known no_members = true
are_among known (member k d ms) = is_among known k && are_among known ms

-- a key stands
abbrev pub stands : List ℕ → Members → Bool
stands key no_members = false
stands key (member k d ms) = bytes_eq k key || stands key ms

-- a key stands, with an object
abbrev pub holds_object : List ℕ → Members → Bool
holds_object key no_members = false
holds_object key (member k d ms) = (bytes_eq k key && is_object d) || holds_object key ms

-- just `template` and `params`
abbrev pub is_replacement : Members → Bool
is_replacement ms =
    are_among (codes "params" ∷ codes "template" ∷ []) ms && stands (codes "params") ms && stands (codes "template") ms

-- `template` and `for_each`, an object; `permutations` may stand beside them
abbrev pub is_repetition : Members → Bool
is_repetition ms =
    are_among (codes "for_each" ∷ codes "permutations" ∷ codes "template" ∷ []) ms && stands (codes "template") ms
    && holds_object (codes "for_each") ms

-- the parts of an object are right for the form
abbrev pub maps_form : Form → Members → Bool
maps_form form.Parameter ms = false
maps_form form.Resource ms = false
maps_form form.Attribute ms = false
maps_form form.File ms = false
maps_form form.Joined ms = false
maps_form form.Split ms = false
maps_form form.Replaced ms = is_replacement ms
maps_form form.Repeated ms = is_repetition ms
maps_form form.Pair ms = false
maps_form form.AnyList ms = false
maps_form form.Branches ms = false
maps_form form.Negated ms = is_condition (fields ms)
maps_form form.Combined ms = false

-- a flag is right for the form
abbrev pub flags_form : Form → Bool
flags_form form.Parameter = false
flags_form form.Resource = false
flags_form form.Attribute = false
flags_form form.File = false
flags_form form.Joined = false
flags_form form.Split = false
flags_form form.Replaced = false
flags_form form.Repeated = false
flags_form form.Pair = false
flags_form form.AnyList = false
flags_form form.Branches = false
flags_form form.Negated = true
flags_form form.Combined = false

-- an argument has the form
abbrev pub has_form : Form → Data → Bool
has_form f null = false
has_form f (flag b) = flags_form f
has_form f (whole z) = false
has_form f (words s) = names_form f
has_form f (items ns) = lists_form f ns
has_form f (fields ms) = maps_form f ms
