-- The constraints of a parameter: their keys, their arguments, and the types that they suit.
use Rattle.std.specs.Prelude.{ℕ, ℤ, pos, List, [], ◌∷◌, Bool, true, false, ◌&&◌, ◌||◌, not, ◌+◌, ◌==◌, int_le}
use Rattle.std.specs.Prelude.{int_lt, bytes_eq}
use Rattle.std.specs.Prelude.{Option, Some, None, is_some, codes, if◌then◌else◌}
use Rattle.std.specs.Option.{option_or}
use Rattle.heat_value.specs.Data.{Data, null, flag, whole, words, items, fields, Nodes, no_nodes, node, Members}
use Rattle.heat_value.specs.Data.{no_members, member}
use Rattle.heat_value.specs.declared.path.Step.TheVariants.{Key, Index}
use Rattle.hot_forms.specs.Checks.{under, unless, is_among}
use Rattle.hot_forms.specs.Shapes.{is_text, is_list, members_in}
use Rattle.hot_forms.specs.declared.code.HotCode.TheVariants.{H12}
use Rattle.hot_forms.specs.declared.flaw.Flaw.{Flaw}
use Rattle.hot_forms.specs.declared.sort.Sort.{Sort}
use Rattle.hot_forms.specs.declared.sort.Sort.TheVariants as sort
use Rattle.hot_forms.specs.declared.rule.Rule.{Rule}
use Rattle.hot_forms.specs.declared.rule.Rule.TheVariants as rule

-- the constraint that a key names
abbrev pub rule_of : List ℕ → Option Rule
rule_of k =
    if bytes_eq k (codes "length") then Some rule.Length else (
    if bytes_eq k (codes "range") then Some rule.Range else (
    if bytes_eq k (codes "modulo") then Some rule.Modulo else (
    if bytes_eq k (codes "allowed_values") then Some rule.Values else (
    if bytes_eq k (codes "allowed_pattern") then Some rule.Pattern else (
    if bytes_eq k (codes "custom_constraint") then Some rule.Custom else None)))))

-- ---- H11: the shape of the list

-- how many keys name a constraint
abbrev pub count_rules : Members → ℕ
count_rules no_members = 0
count_rules (member k d ms) = if is_some (rule_of k) then 1 + count_rules ms else count_rules ms

-- each key names a constraint, or is `description` with a text
abbrev pub has_no_more : Members → Bool
has_no_more no_members = true
has_no_more (member k d ms) = (is_some (rule_of k) || (bytes_eq k (codes "description") && is_text d)) && has_no_more ms

-- an object with one constraint key and at most `description`, a text, beside it
abbrev pub is_constraint : Data → Bool
is_constraint null = false
is_constraint (flag b) = false
is_constraint (whole z) = false
is_constraint (words s) = false
is_constraint (items ns) = false
is_constraint (fields ms) = (count_rules ms == 1) && has_no_more ms

abbrev pub are_constraints : Nodes → Bool
are_constraints no_nodes = true
are_constraints (node d ns) = is_constraint d && are_constraints ns

-- a list of constraints
abbrev pub is_constraint_list : Data → Bool
is_constraint_list null = false
is_constraint_list (flag b) = false
is_constraint_list (whole z) = false
is_constraint_list (words s) = false
is_constraint_list (items ns) = are_constraints ns
is_constraint_list (fields ms) = false

-- ---- H12: the argument, and the type

-- a whole number
abbrev pub is_whole : Data → Bool
is_whole null = false
is_whole (flag b) = false
is_whole (whole z) = true
is_whole (words s) = false
is_whole (items ns) = false
is_whole (fields ms) = false

-- a whole number, 0 or more
abbrev pub is_count : Data → Bool
is_count null = false
is_count (flag b) = false
is_count (whole z) = int_le (pos 0) z
is_count (words s) = false
is_count (items ns) = false
is_count (fields ms) = false

-- each key is `min` or `max`, with a whole number
abbrev pub are_bounds : Members → Bool
are_bounds no_members = true
are_bounds (member k d ms) = is_among (codes "max" ∷ codes "min" ∷ []) k && is_whole d && are_bounds ms

-- each is 0 or more
abbrev pub are_counts : Members → Bool
are_counts no_members = true
are_counts (member k d ms) = is_count d && are_counts ms

abbrev pub is_empty : Members → Bool
is_empty no_members = true
is_empty (member k d ms) = false

-- an object of `min`, `max`, at least one, any whole numbers
abbrev pub is_range : Data → Bool
is_range null = false
is_range (flag b) = false
is_range (whole z) = false
is_range (words s) = false
is_range (items ns) = false
is_range (fields ms) = not (is_empty ms) && are_bounds ms

-- the step is at least 1, and the offset from 0 to step - 1
abbrev pub is_step : Data → Data → Bool
is_step (whole offset) (whole step) = int_le (pos 1) step && int_le (pos 0) offset && int_lt offset step
is_step (whole offset) null = false
is_step (whole offset) (flag b) = false
is_step (whole offset) (words s) = false
is_step (whole offset) (items ns) = false
is_step (whole offset) (fields ms) = false
is_step null step = false
is_step (flag b) step = false
is_step (words s) step = false
is_step (items ns) step = false
is_step (fields ms) step = false

-- just two members, `offset` and `step`
abbrev pub is_modulo : Members → Bool
is_modulo no_members = false
is_modulo (member k d no_members) = false
is_modulo (member k d (member l e no_members)) = bytes_eq k (codes "offset") && bytes_eq l (codes "step") && is_step d e
is_modulo (member k d (member l e (member m f ms))) = false

-- the argument is of the constraint's form
abbrev pub is_argument : Rule → Data → Bool
is_argument rule.Length d = is_range d && are_counts (members_in d)
is_argument rule.Range d = is_range d
is_argument rule.Modulo d = is_modulo (members_in d)
is_argument rule.Values d = is_list d
is_argument rule.Pattern d = is_text d
is_argument rule.Custom d = is_text d

-- the constraint suits the type
abbrev pub suits : Rule → Sort → Bool
suits rule.Length sort.Words = true
suits rule.Length sort.Number = false
suits rule.Length sort.Flag = false
suits rule.Length sort.Json = true
suits rule.Length sort.List = true
suits rule.Range sort.Words = false
suits rule.Range sort.Number = true
suits rule.Range sort.Flag = false
suits rule.Range sort.Json = false
suits rule.Range sort.List = false
suits rule.Modulo sort.Words = false
suits rule.Modulo sort.Number = true
suits rule.Modulo sort.Flag = false
suits rule.Modulo sort.Json = false
suits rule.Modulo sort.List = false
suits rule.Values sort.Words = true
suits rule.Values sort.Number = true
suits rule.Values sort.Flag = true
suits rule.Values sort.Json = false
suits rule.Values sort.List = true
suits rule.Pattern sort.Words = true
suits rule.Pattern sort.Number = false
suits rule.Pattern sort.Flag = false
suits rule.Pattern sort.Json = false
suits rule.Pattern sort.List = true
suits rule.Custom sort.Words = true
suits rule.Custom sort.Number = false
suits rule.Custom sort.Flag = false
suits rule.Custom sort.Json = false
suits rule.Custom sort.List = true

-- under a key that names a constraint: a wrong argument, or one that doesn't suit the type
abbrev pub rule_flaw : Sort → Option Rule → Data → Option Flaw
rule_flaw s None d = None
rule_flaw s (Some r) d = unless (is_argument r d && suits r s) H12

-- a constraint's flaw, at its argument
abbrev pub constraint_flaw : Sort → Members → Option Flaw
constraint_flaw s no_members = None
constraint_flaw s (member k d ms) = option_or (under (Key k) (rule_flaw s (rule_of k) d)) (constraint_flaw s ms)

-- of the constraints from the place i on, the first flaw
abbrev pub constraints_flaw : Sort → ℕ → Nodes → Option Flaw
constraints_flaw s i no_nodes = None
constraints_flaw s i (node d ns) =
    option_or (under (Index i) (constraint_flaw s (members_in d))) (constraints_flaw s (i + 1) ns)
